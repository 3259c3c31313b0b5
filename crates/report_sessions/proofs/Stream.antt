-- Spotless sessions, by the sequence numbers and the sets of their messages.
use Rattle.std.proofs.Common.{◌≡◌, ℕ, Bool, true, false, cond, eqb, ltb, Some, None, List, [], ◌∷◌, refl, sym, ap, subst, ◌∙◌, arith, map}
use Rattle.std.specs.Prelude.{◌^◌, ◌↔◌, All, sum_by}
use Rattle.std.proofs.lemmas.List.Elements.{All-nil, All-cons, All-head, All-tail, All-map, All-weaker, All-filter}
use Rattle.std.proofs.lemmas.List.Sums.{sum_by-cons}
use Rattle.ipfix_message.specs.Domains.{Message}
use Rattle.ipfix_session.specs.declared.report.DomainBalance.{DomainBalance}
use Rattle.ipfix_session.specs.declared.report.DomainReport.{DomainReport}
use Rattle.ipfix_session.specs.declared.report.FullReport.{FullReport}
use Rattle.ipfix_session.specs.Ledger.{capped, sequence_behind, gap, lost_at, backward_at, lost_between, backward_between, sum_neighbours, messages_of, domains_of, domain_report}
use Rattle.ipfix_session.specs.Balances.{unaccounted_between, domain_balance}
use Rattle.ipfix_session.specs.Places.{CountsInFull}
use Rattle.report_sessions.specs.Spotless.{IsInSequence, IsSpotlessSession, IsUnbroken, IsUnbrokenStream}

-- ---- lists

unmapped : {X Y : Type 0} (P : X → Type 0) (f : Y → X) (ys : List Y) → All P (map f ys) → All (λ y. P (f y)) ys
unmapped P f [] all = All-nil (λ y. P (f y))
unmapped P f (y ∷ ys) all = All-cons (λ y. P (f y)) y ys (All-head P (f y) (map f ys) all) (unmapped P f ys (All-tail P (f y) (map f ys) all))

each_none : {X : Type 0} (f : X → ℕ) (xs : List X) → sum_by f xs ≡ 0 → All (λ x. f x ≡ 0) xs
each_none f [] none = All-nil (λ x. f x ≡ 0)
each_none f (x ∷ xs) none =
    let s = sum_by-cons f x xs in
    All-cons (λ x. f x ≡ 0) x xs (omega (arith, none, s)) (each_none f xs (omega (arith, none, s)))

none_in_all : {X : Type 0} (f : X → ℕ) (xs : List X) → All (λ x. f x ≡ 0) xs → sum_by f xs ≡ 0
none_in_all f [] all = refl
none_in_all f (x ∷ xs) all =
    let s = sum_by-cons f x xs in
    let first = All-head (λ x. f x ≡ 0) x xs all in
    let more = none_in_all f xs (All-tail (λ x. f x ≡ 0) x xs all) in
    omega (arith, s, first, more)

-- ---- two neighbours

abbrev IsKnown : Message → Type 0
IsKnown m = m.decoding.passed_over.unknown_sets ≡ 0

due_is : (m : Message) → IsKnown m → cond (eqb m.decoding.passed_over.unknown_sets 0) (Some (sequence_behind m)) None ≡ Some (sequence_behind m)
due_is m known = rw known refl

abbrev step : Bool → ℕ
step b = cond b 0 1

gap_none : (g : ℕ) (b : Bool) → cond b g 0 ≡ 0 → step b ≡ 0 → g ≡ 0
gap_none g true lost backward = lost
gap_none g false lost backward = absurd (omega (arith, backward))

lost_none : (g : ℕ) → g ≡ 0 → cond (ltb g (2 ^ 31)) g 0 ≡ 0
lost_none g none = rw none refl

backward_none : (g : ℕ) → g ≡ 0 → step (ltb g (2 ^ 31)) ≡ 0
backward_none g none = rw none refl

next_is_due : (m n : Message) → IsKnown m → lost_between m n ≡ 0 → backward_between m n ≡ 0 → gap (sequence_behind m) n.header.sequence ≡ 0
next_is_due m n known lost backward =
    let g = gap (sequence_behind m) n.header.sequence in
    gap_none g (ltb g (2 ^ 31)) (subst (λ d. lost_at d n.header.sequence ≡ 0) (due_is m known) lost) (subst (λ d. backward_at d n.header.sequence ≡ 0) (due_is m known) backward)

none_lost : (m n : Message) → IsKnown m → gap (sequence_behind m) n.header.sequence ≡ 0 → lost_between m n ≡ 0
none_lost m n known none = subst (λ d. lost_at d n.header.sequence ≡ 0) (sym (due_is m known)) (lost_none _ none)

none_backward : (m n : Message) → IsKnown m → gap (sequence_behind m) n.header.sequence ≡ 0 → backward_between m n ≡ 0
none_backward m n known none = subst (λ d. backward_at d n.header.sequence ≡ 0) (sym (due_is m known)) (backward_none _ none)

none_unaccounted : (m n : Message) → IsKnown m → unaccounted_between m n ≡ 0
none_unaccounted m n known = rw known refl

-- ---- the messages of a domain

in_sequence : (own : List Message) → All IsKnown own → sum_neighbours lost_between own ≡ 0 → sum_neighbours backward_between own ≡ 0 → IsInSequence own
in_sequence [] known lost backward = tt
in_sequence (m ∷ []) known lost backward = tt
in_sequence (m ∷ n ∷ ms) known lost backward = (
  next_is_due m n (All-head IsKnown m (n ∷ ms) known) (omega (arith, lost)) (omega (arith, backward)),
  in_sequence (n ∷ ms) (All-tail IsKnown m (n ∷ ms) known) (omega (arith, lost)) (omega (arith, backward)),
)

pub record HasNoGap (own : List Message) : Type 0 where
  pub lost : sum_neighbours lost_between own ≡ 0
  pub backward : sum_neighbours backward_between own ≡ 0
  pub unaccounted : sum_neighbours unaccounted_between own ≡ 0

no_gap : (own : List Message) → All IsKnown own → IsInSequence own → HasNoGap own
no_gap [] known due = record { lost = refl; backward = refl; unaccounted = refl }
no_gap (m ∷ []) known due = record { lost = refl; backward = refl; unaccounted = refl }
no_gap (m ∷ n ∷ ms) known due =
    let this = All-head IsKnown m (n ∷ ms) known in
    let more = no_gap (n ∷ ms) (All-tail IsKnown m (n ∷ ms) known) due.1 in
    let lost = none_lost m n this due.0 in
    let backward = none_backward m n this due.0 in
    let unaccounted = none_unaccounted m n this in
    record { lost = omega (arith, lost, more.lost); backward = omega (arith, backward, more.backward); unaccounted = omega (arith, unaccounted, more.unaccounted) }

-- ---- a session

none_is : (n : ℕ) → capped n ≡ 0 → n ≡ 0
none_is n none = omega (arith, none)

capped_none : (n : ℕ) → n ≡ 0 → capped n ≡ 0
capped_none n none = omega (arith, none)

module _ (full : FullReport) (ms : List Message) (delivered : ℕ) (r : CountsInFull full ms delivered) where
  unknown_is : full.report.unknown_sets ≡ capped (sum_by (λ m. m.decoding.passed_over.unknown_sets) ms)
  unknown_is = ap (λ p. p.unknown_sets) r.reports.passed_over

  skipped_is : full.report.skipped_sets ≡ capped (sum_by (λ m. m.decoding.passed_over.skipped_sets) ms)
  skipped_is = ap (λ p. p.skipped_sets) r.reports.passed_over

  stream : IsSpotlessSession full → IsUnbrokenStream ms
  stream s =
      let known = each_none (λ (m : Message). m.decoding.passed_over.unknown_sets) ms (none_is _ (sym unknown_is ∙ s.none_unknown)) in
      let unbroken = unmapped IsUnbroken (domain_report ms) (domains_of ms) (subst (λ (ds : List DomainReport). All IsUnbroken ds) r.reports.domains s.unbroken) in
      record {
        in_sequence = All-weaker (λ d. IsUnbroken (domain_report ms d)) (λ d. IsInSequence (messages_of d ms))
            (λ d u. in_sequence (messages_of d ms) (All-filter _ IsKnown ms known) (none_is _ u.0) (none_is _ u.1)) (domains_of ms) unbroken;
        none_unknown = known;
        none_skipped = each_none (λ (m : Message). m.decoding.passed_over.skipped_sets) ms (none_is _ (sym skipped_is ∙ s.none_skipped));
      }

  spotless : full.report.fault ≡ None → IsUnbrokenStream ms → IsSpotlessSession full
  spotless no_fault u =
      let gapless = λ (d : ℕ) (due : IsInSequence (messages_of d ms)). no_gap (messages_of d ms) (All-filter _ IsKnown ms u.none_unknown) due in
      let unbroken = All-weaker (λ d. IsInSequence (messages_of d ms)) (λ d. IsUnbroken (domain_report ms d))
      (λ d due. (capped_none _ (gapless d due).lost, capped_none _ (gapless d due).backward)) (domains_of ms) u.in_sequence in
      let accounted = All-weaker (λ d. IsInSequence (messages_of d ms)) (λ d. (domain_balance ms d).unaccounted ≡ 0)
      (λ d due. capped_none _ (gapless d due).unaccounted) (domains_of ms) u.in_sequence in
      record {
        no_fault = no_fault;
        unbroken = subst (λ (ds : List DomainReport). All IsUnbroken ds) (sym r.reports.domains) (All-map IsUnbroken (domain_report ms) (domains_of ms) unbroken);
        none_unknown = unknown_is ∙ capped_none _ (none_in_all _ ms u.none_unknown);
        none_skipped = skipped_is ∙ capped_none _ (none_in_all _ ms u.none_skipped);
        none_unaccounted = subst (λ (bs : List DomainBalance). All (λ b. b.unaccounted ≡ 0) bs) (sym r.balances)
            (All-map (λ (b : DomainBalance). b.unaccounted ≡ 0) (domain_balance ms) (domains_of ms) accounted);
      }

  pub both : IsSpotlessSession full ↔ ((full.report.fault ≡ None) × IsUnbrokenStream ms)
  both = ((λ s. (s.no_fault, stream s)), (λ p. spotless p.0 p.1))

-- What is left of what a domain counts, and what that says of its templates.
use Rattle.std.proofs.Common.{◌≡◌, ◌+◌, ◌-◌, ◌<◌, arith, ℕ, Bool, true, false, cond, eqb, is_some, List, [], ◌∷◌, Option, Some, None, refl, sym, ap, ap₂, subst, ◌∙◌, inl, inr}
use Rattle.std.specs.Prelude.{IsSome, MatchBool, nat_eq, nat_lt, option_map, sum_by, unwrap_or}
use Rattle.std.specs.List.{list_any}
use Rattle.std.specs.Map.{lookup}
use Rattle.std.specs.Option.{option_or}
use Rattle.std.specs.Ordering.{nat_cmp, eq_by_cmp}
use Rattle.std.specs.BTreeMap.{BTreeMap, get}
use Rattle.std.proofs.lemmas.Bool.{ltb-true, ltb-false}
use Rattle.ipfix_message.specs.Alike.{knows}
use Rattle.ipfix_message.specs.Domains.{DomainsView, History, template_for}
use Rattle.ipfix_message.specs.Kept.{kept}
use Rattle.ipfix_message.specs.declared.record.Template.{Template}
use Rattle.ipfix_message.specs.declared.template_record.Event.{Event}
use Rattle.ipfix_message.specs.TemplateLimits.{fields_of}
use Rattle.ipfix_datagrams.specs.Datagrams.{AreWeighed, Represents, Weighs, WeighsIf, barred_in, definition_of, known_in, withdrawn_in}
use Rattle.ipfix_datagrams.specs.declared.known_templates.KnownTemplates.{KnownTemplates}
use Rattle.ipfix_datagrams.proofs.InForce.{known_or}
use Rattle.recording_files.specs.Files.{FilesView}
use Rattle.recording_peer.specs.Peers.{known_after_all}
use Rattle.recording_peer.specs.Places.{HasInForce, HasNoneInForce, IsInForce, SaysInForce, ended_in_files, fields_for, fields_in, fields_left, has_template, in_files}
use Rattle.recording_peer.specs.Recording.{BarsOnce, FiledDatagrams, IsPeer, KeepsListed, KnownShown, PeerView, barred_shown, known_shown, taken_in}
use Rattle.recording_peer.proofs.Listed.{barred_same}
use Rattle.recording_peer.proofs.Taking.{represents}
use Rattle.recording_peer.proofs.Counting.{any_entry, are_distinct, as_equal, count_at, no_entry, open_or_all, with_another}

-- ---- as it is kept

abbrev pub entries_of : Option (BTreeMap ℕ Template) → Option (List (ℕ × Template))
entries_of o = option_map (λ ts. ts.entries) o

pub files_as : (d : DomainsView) (s : PeerView) (o : Option (BTreeMap ℕ Template)) (domain : ℕ) → d ≡ s.recorder.domains → (d.spent ≡ true → o ≡ None) → (d.spent ≡ false → entries_of o ≡ lookup (nat_eq domain) d.domains) → entries_of o ≡ in_files s domain
files_as d s o domain same spent fresh = subst (λ (v : DomainsView). entries_of o ≡ cond v.spent None (lookup (nat_eq domain) v.domains)) same (by d.spent refl)
  where
    by : (b : Bool) → d.spent ≡ b → entries_of o ≡ cond b None (lookup (nat_eq domain) d.domains)
    by true e = ap entries_of (spent e)
    by false e = fresh e

kept_lookup : (test : ℕ → Bool) (es : List (ℕ × BTreeMap ℕ Template)) → entries_of (lookup test es) ≡ lookup test (kept es)
kept_lookup test [] = refl
kept_lookup test (e ∷ es) = by_test (test e.0) (kept_lookup test es)
  where
    by_test : (b : Bool) → entries_of (lookup test es) ≡ lookup test (kept es) → entries_of (cond b (Some e.1) (lookup test es)) ≡ cond b (Some e.1.entries) (lookup test (kept es))
    by_test true more = refl
    by_test false more = more

pub left_as : (s : PeerView) (k : KnownTemplates) (files ended : Option (BTreeMap ℕ Template)) (domain weight own n : ℕ) (ids : List ℕ) → known_shown k ≡ s.known → entries_of files ≡ in_files s domain → ended ≡ get nat_cmp k.withdrawn domain
    → ids ≡ barred_in k.barred domain → own ≡ weight - 16 → n ≡ own - sum_by (fields_for (entries_of files) (entries_of ended)) ids → n ≡ fields_left s (domain, weight)
left_as s k files ended domain weight own n ids shown in_force withdrawn barred less left =
    let bars : ids ≡ barred_shown s.known domain = barred ∙ sym (barred_same k domain) ∙ ap (λ (v : KnownShown). barred_shown v domain) shown in
    let outs : entries_of ended ≡ ended_in_files s domain =
    ap entries_of withdrawn ∙ kept_lookup (eq_by_cmp nat_cmp domain) k.withdrawn.entries ∙ ap (λ (v : KnownShown). lookup (eq_by_cmp nat_cmp domain) v.withdrawn) shown in
    left
    ∙ ap (λ (m : ℕ). m - sum_by (fields_for (entries_of files) (entries_of ended)) ids) less
    ∙ ap (λ (is : List ℕ). (weight - 16) - sum_by (fields_for (entries_of files) (entries_of ended)) is) bars
    ∙ ap₂ (λ (a b : Option (List (ℕ × Template))). (weight - 16) - sum_by (fields_for a b) (barred_shown s.known domain)) in_force outs

-- ---- what the template of an id counts

abbrev count_of : Option Template → ℕ
count_of o = unwrap_or (option_map fields_of o) 0

both_count : (a k : Option Template) → k ≡ option_or a (cond (is_some a) None k) → count_of a + count_of (cond (is_some a) None k) ≡ count_of k
both_count None k e = omega arith
both_count (Some t) k e = let none : count_of (Some t) + 0 ≡ count_of (Some t) = omega arith in none ∙ ap count_of (sym e)

fields_are : (s : PeerView) (ds : History) (domain id : ℕ) → Represents s.recorder.domains ds → KeepsListed s.known.withdrawn ds → fields_for (in_files s domain) (ended_in_files s domain) id ≡ count_of (known_in ds domain id)
fields_are s ds domain id is keeps =
    let fresh : in_files s domain ≡ lookup (nat_eq domain) s.recorder.domains.domains = rw is.fresh refl in
    let first : fields_in (in_files s domain) id ≡ count_of (template_for ds domain id) = ap (λ (o : Option (List (ℕ × Template))). fields_in o id) fresh ∙ ap count_of (is.stands.templates domain id) in
    let second : fields_in (ended_in_files s domain) id ≡ count_of (withdrawn_in ds domain id) = ap count_of (keeps.at domain id) in
    ap₂ (λ (a b : ℕ). a + b) first second ∙ both_count (template_for ds domain id) (known_in ds domain id) (known_or ds domain id)

-- ---- one domain

counted : (f : ℕ → ℕ) (cs : List (ℕ × ℕ)) (ids : List ℕ) → ((id : ℕ) → f id ≡ count_at cs id) → sum_by f ids ≡ sum_by (count_at cs) ids
counted f cs ids same = λ i. sum_by (λ id. same id i) ids

at_counts : (cs : List (ℕ × ℕ)) (o : Option Template) (id : ℕ) → lookup (eq_by_cmp nat_cmp id) cs ≡ option_map fields_of o → count_of o ≡ count_at cs id
at_counts cs o id at = ap (λ (c : Option ℕ). unwrap_or c 0) (sym at ∙ as_equal id cs)

some_there : (o : Option Template) (n : ℕ) → Some n ≡ option_map fields_of o → IsSome o
some_there None n e = cc
some_there (Some t) n e = refl

has_count : (o : Option Template) → IsSome o → 0 < count_of o
has_count None some = cc
has_count (Some t) some = omega arith

module _ (s : PeerView) (ds : History) (is : Represents s.recorder.domains ds) (keeps : KeepsListed s.known.withdrawn ds) where
  fields_at : (domain n : ℕ) (w : Weighs n ds domain) (id : ℕ) → fields_for (in_files s domain) (ended_in_files s domain) id ≡ count_at w.counts id
  fields_at domain n w id = fields_are s ds domain id is keeps ∙ at_counts w.counts (known_in ds domain id) id (w.at id)

  some_left : (domain n : ℕ) → Weighs n ds domain → nat_lt 0 (fields_left s (domain, n)) ≡ true → HasInForce s ds
  some_left domain n w left =
      let bars = barred_shown s.known domain in
      let more : 0 < fields_left s (domain, n) = ltb-true 0 _ left in
      let sums = counted (fields_for (in_files s domain) (ended_in_files s domain)) w.counts bars (fields_at domain n w) in
      elim (open_or_all w.counts bars (are_distinct _ w.ascending)) [
        | inl o ↦ record { domain = domain; id = o.id; is = (some_there (known_in ds domain o.id) o.count (sym o.there ∙ sym (as_equal o.id w.counts) ∙ w.at o.id), o.out) }
        | inr all ↦ let size = w.is in absurd (omega (arith, more, sums, all, size))
      ]

  none_left : (domain n : ℕ) → Weighs n ds domain → nat_lt 0 (fields_left s (domain, n)) ≡ false → BarsOnce s.known → (id : ℕ) → IsInForce s ds domain id → ⊥
  none_left domain n w left once id is_open =
      let bars = barred_shown s.known domain in
      let none = ltb-false 0 _ left in
      let sums = counted (fields_for (in_files s domain) (ended_in_files s domain)) w.counts bars (fields_at domain n w) in
      let all = with_another w.counts bars id (once domain) is_open.1 in
      let some = has_count (known_in ds domain id) is_open.0 in
      let at = at_counts w.counts (known_in ds domain id) id (w.at id) in
      let size = w.is in
      omega (arith, none, sums, all, some, at, size)

  none_known : (domain id : ℕ) → knows ds domain ≡ false → IsSome (known_in ds domain id) → ⊥
  unfolding definition_of
  none_known domain id not_known some = by (lookup (nat_eq domain) ds) not_known some
    where
      by : (o : Option (List Event)) → is_some o ≡ false → IsSome (definition_of (unwrap_or o []) id) → ⊥
      by None e k = cc
      by (Some es) e k = cc

  -- ---- all domains

  module _ (ws : List (ℕ × ℕ)) (weighed : AreWeighed ws ds) where
    weighs : (domain n : ℕ) → lookup (eqb domain) ws ≡ Some n → Weighs n ds domain
    weighs domain n there = (subst (λ (o : Option ℕ). WeighsIf o ds domain) (as_equal domain ws ∙ there) (weighed.at domain)).1

    any_left : list_any (λ e. nat_lt 0 (fields_left s e)) ws ≡ true → HasInForce s ds
    any_left any =
        let e = any_entry (λ e. nat_lt 0 (fields_left s e)) ws (are_distinct _ weighed.ascending) any in
        some_left e.key e.value (weighs e.key e.value e.there) e.holds_there

    nothing_left : list_any (λ e. nat_lt 0 (fields_left s e)) ws ≡ false → BarsOnce s.known → HasNoneInForce s ds
    nothing_left none once domain id is_open = by (lookup (eqb domain) ws) refl
      where
        by : (o : Option ℕ) → lookup (eqb domain) ws ≡ o → ⊥
        by None e = none_known domain id (subst (λ (o : Option ℕ). WeighsIf o ds domain) (as_equal domain ws ∙ e) (weighed.at domain)) is_open.0
        by (Some n) e = none_left domain n (weighs domain n e) (no_entry (λ e. nat_lt 0 (fields_left s e)) ws domain n none e) once id is_open

pub says_in_force : (first after : FilesView) (s : PeerView) (filed : FiledDatagrams) → IsPeer first after s filed → SaysInForce s (known_after_all (taken_in filed))
says_in_force first after s filed p = by (has_template s) refl
  where
    ds : History
    ds = known_after_all (taken_in filed)

    is : Represents s.recorder.domains ds
    is = represents s.recorder.domains p refl

    by : (b : Bool) → has_template s ≡ b → MatchBool b (HasInForce s ds) (HasNoneInForce s ds)
    by true e = any_left s ds is p.withdrawn s.known.weights p.fits.weighed e
    by false e = nothing_left s ds is p.withdrawn s.known.weights p.fits.weighed e p.once

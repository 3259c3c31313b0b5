-- The sets of a message in turn: what they give is what stands in them.
use Rattle.std.proofs.Common.{◌≡◌, ℕ, ◌+◌, Bool, cond, List, [], ◌∷◌, ◌++◌, map, Result, Ok, refl, sym, ap, ◌∙◌, append_assoc, arith}
use Rattle.std.specs.Prelude.{All, count_by}
use Rattle.std.proofs.lemmas.List.{append-nil}
use Rattle.std.proofs.lemmas.List.Concat.{flat_map-cons}
use Rattle.std.proofs.lemmas.List.Elements.{All-head, All-tail}
use Rattle.std.proofs.lemmas.List.Sums.{sum_by-cons}
use Rattle.ipfix_wire.specs.Numbers.{IsOctets}
use Rattle.ipfix_wire.specs.declared.header.Header.{Header}
use Rattle.ipfix_message.specs.declared.fault.MessageFault.{MessageFault}
use Rattle.ipfix_message.specs.declared.passed_over.PassedOver.{PassedOver}
use Rattle.ipfix_message.specs.declared.record.DataRecord.{DataRecord}
use Rattle.ipfix_message.specs.declared.template_record.Event.{Event}
use Rattle.ipfix_message.specs.Outcome.{◌>>=◌}
use Rattle.ipfix_message.specs.Sets.{Set}
use Rattle.ipfix_message.specs.Messages.{Decoding, before, set_gives, sets_give}
use Rattle.ipfix_message.proofs.Reading.{ok_is, bind_ok}
use Rattle.laws_messages.specs.WholeMessages.{Content, StandInTurn, events_of, behind, records_of, is_skipped, is_unknown, ignored_in, all_events, all_records, passed_over}
use Rattle.laws_messages.proofs.Contents.{decoding, made, with_set, set-found, set-only}

-- ---- what stands in all sets

-- what was read before some sets, and what stands in them
abbrev pub with_sets : Header → Decoding → List (Set × Content) → Decoding
with_sets h d sets = decoding (behind d.events (all_events sets)) (d.records ++ all_records h sets)
    (d.passed_over.skipped_sets + count_by (λ p. is_skipped p.1) sets)
    (d.passed_over.unknown_sets + count_by (λ p. is_unknown p.1) sets)
    (d.passed_over.ignored_withdrawals + ignored_in d.events (all_events sets))

behind-append : (es events more : List Event) → behind es (events ++ more) ≡ behind (behind es events) more
behind-append es [] more = refl
behind-append es (e ∷ events) more = behind-append (e ∷ es) events more

ignored_in-append : (es events more : List Event) → ignored_in es (events ++ more) ≡ ignored_in es events + ignored_in (behind es events) more
ignored_in-append es [] more = omega arith
ignored_in-append es (e ∷ events) more =
    let rest = ignored_in-append (e ∷ es) events more in
    omega (arith, rest)

counted : (p : Set × Content → Bool) (x : Set × Content) (sets : List (Set × Content)) (n : ℕ) → n + cond (p x) 1 0 + count_by p sets ≡ n + count_by p (x ∷ sets)
counted p x sets n = let e = sum_by-cons (λ y. cond (p y) 1 0) x sets in omega (arith, e)

with_sets-none : (h : Header) (d : Decoding) → d ≡ with_sets h d []
with_sets-none h d = made d.events d.events d.records (d.records ++ []) _ _ _ _ _ _ refl (sym (append-nil d.records)) (omega arith) (omega arith) (omega arith)

with_sets-next : (h : Header) (d : Decoding) (p : Set × Content) (sets : List (Set × Content)) → with_sets h (with_set h d p.1) sets ≡ with_sets h d (p ∷ sets)
with_sets-next h d p sets =
    let es = events_of p.1 in
    let events = flat_map-cons (λ (q : Set × Content). events_of q.1) p sets in
    let records = flat_map-cons (λ (q : Set × Content). records_of h q.1) p sets in
    made _ _ _ _ _ _ _ _ _ _
    (sym (behind-append d.events es (all_events sets)) ∙ ap (behind d.events) (sym events))
    (append_assoc d.records (records_of h p.1) (all_records h sets) ∙ ap (λ (rs : List DataRecord). d.records ++ rs) (sym records))
    (counted (λ q. is_skipped q.1) p sets d.passed_over.skipped_sets)
    (counted (λ q. is_unknown q.1) p sets d.passed_over.unknown_sets)
    (let all = ignored_in-append d.events es (all_events sets) in
    let same = ap (ignored_in d.events) events in
    omega (arith, all, same))

-- ---- in turn

abbrev pub BodyHas : Set → Type 0
BodyHas s = IsOctets s.body

-- the sets hold this, and they give what was read then
pub record AllHold (h : Header) (d : Decoding) (ss : List Set) (e : Decoding) : Type 0 where
  pub sets : List (Set × Content)
  pub are_sets : map (λ p. p.0) sets ≡ ss
  pub stand : StandInTurn d.events sets
  pub are : with_sets h d sets ≡ e

pub sets-found : (ss : List Set) (h : Header) (d e : Decoding) → All BodyHas ss → sets_give h d ss ≡ Ok e → AllHold h d ss e
unfolding sets_give
sets-found [] h d e fits read = record { sets = []; are_sets = refl; stand = tt; are = sym (with_sets-none h d) ∙ ok_is d e read }
sets-found (s ∷ ss) h d e fits read =
    let r = bind_ok (set_gives h d s) (λ x. sets_give h x ss) e read in
    let one = set-found h d r.0 s (All-head BodyHas s ss fits) r.1 in
    let read_on : sets_give h (with_set h d one.content) ss ≡ Ok e = ap (λ (x : Decoding). sets_give h x ss) one.are ∙ r.2 in
    let others = sets-found ss h (with_set h d one.content) e (All-tail BodyHas s ss fits) read_on in
    record {
      sets = (s, one.content) ∷ others.sets;
      are_sets = ap (λ (xs : List Set). s ∷ xs) others.are_sets;
      stand = (one.stands, others.stand);
      are = sym (with_sets-next h d (s, one.content) others.sets) ∙ others.are;
    }

pub sets-only : (sets : List (Set × Content)) (h : Header) (d : Decoding) → All BodyHas (map (λ p. p.0) sets) → StandInTurn d.events sets → sets_give h d (map (λ p. p.0) sets) ≡ Ok (with_sets h d sets)
unfolding sets_give
sets-only [] h d fits stand = ap (λ (e : Decoding). Ok e) (with_sets-none h d)
sets-only (p ∷ sets) h d fits stand =
    let ss : List Set = map (λ (q : Set × Content). q.0) sets in
    ap (λ (read : Result Decoding MessageFault). read >>= λ x. sets_give h x ss) (set-only h d p.0 p.1 (All-head BodyHas p.0 ss fits) stand.0)
    ∙ sets-only sets h (with_set h d p.1) (All-tail BodyHas p.0 ss fits) stand.1
    ∙ ap (λ (e : Decoding). Ok e) (with_sets-next h d p sets)

-- ---- from the beginning of a message on

abbrev over : ℕ → ℕ → ℕ → PassedOver
over skipped unknown ignored = record { skipped_sets = skipped; unknown_sets = unknown; ignored_withdrawals = ignored }

pub passed_over-all : (h : Header) (es : List Event) (sets : List (Set × Content)) → (with_sets h (before es) sets).passed_over ≡ passed_over es sets
passed_over-all h es sets = same _ _ _ _ _ _ (omega arith) (omega arith) (omega arith)
  where
    same : (a b i j u v : ℕ) → a ≡ b → i ≡ j → u ≡ v → over a i u ≡ over b j v
    same a b i j u v p q r = rw (p, q, r) refl

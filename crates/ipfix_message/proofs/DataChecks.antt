-- Sets that are only checked.
use Rattle.std.proofs.Common.{◌≡◌, ℕ, ◌<◌, ◌≤◌, Bool, true, false, eqb, ltb, List, ◌∷◌, ◌++◌, length, map, Some, None, Result, Ok, Err, refl, sym, ap, subst, ◌∙◌, cond}
use Rattle.std.specs.Prelude.{◌≢◌, ◌||◌, IsOk}
use Rattle.std.specs.List.{list_any}
use Rattle.std.proofs.lemmas.Bool.{lt-ltb, le-ltb, eq-eqb}
use Rattle.ipfix_wire.specs.declared.header.Header.{Header}
use Rattle.ipfix_wire.specs.declared.specifier.Spec.{Spec}
use Rattle.ipfix_wire.specs.InTurn.{Parts}
use Rattle.ipfix_wire.proofs.Choices.{different}
use Rattle.ipfix_wire.proofs.Parts.{parts_of-next, parts_of-none}
use Rattle.ipfix_message.specs.declared.fault.MessageFault.{MessageFault}
use Rattle.ipfix_message.specs.declared.fault.MessageFault.TheVariants as faults
use Rattle.ipfix_message.specs.declared.record.Template.{Template}
use Rattle.ipfix_message.specs.DataRecords.{records_of_body, record_of}
use Rattle.ipfix_message.specs.Fields.{Field}
use Rattle.ipfix_message.specs.SpelledFields.{least, fields_at}
use Rattle.ipfix_message.specs.Outcome.{◌>>=◌, map_read, Fails}
use Rattle.ipfix_message.specs.Sets.{Set, set_of, next_set, fault_after_sets, is_template_set, has_template_set}
use Rattle.ipfix_message.specs.Messages.{Decoding, one_skipped, one_unknown, data_in, set_gives, sets_from}
use Rattle.ipfix_message.specs.TemplatesInForce.{in_force}
use Rattle.ipfix_message.specs.Held.{Agrees, Checks, ChecksBody, ChecksSet}
use Rattle.ipfix_message.proofs.Bodies.{records_of_body-next, records_of_body-rest, records_of_body-cut}
use Rattle.ipfix_message.proofs.Decoding.{sets_from-next, sets_from-fault, sets_from-cut, sets_from-done}
use Rattle.ipfix_message.proofs.MessageSets.{sets_shrink, next_set-fault, next_set-nil}
use Rattle.ipfix_message.proofs.Reading.{fault_is, not_both}

-- ---- a body, record by record as a loop goes

-- whether reading gives something, or its fault
abbrev pub outcome : {X : Type 0} → Result X MessageFault → Result (Unit {0}) MessageFault
outcome read = map_read (λ _. tt) read

outcome-map : {X Y : Type 0} (f : X → Y) (read : Result X MessageFault) → outcome (map_read f read) ≡ outcome read
outcome-map f (Ok x) = refl
outcome-map f (Err e) = refl

was_ok : {X : Type 0} (read : Result X MessageFault) → outcome read ≡ Ok tt → IsOk read
was_ok (Ok x) h = refl
was_ok (Err e) h = absurd (not_both tt e (sym h))

was_err : {X : Type 0} (read : Result X MessageFault) (e : MessageFault) → outcome read ≡ Err e → read ≡ Err e
was_err (Ok x) e h = absurd (not_both tt e h)
was_err (Err d) e h = ap (λ (k : MessageFault). Err k) (fault_is d e h)

pub next_record : (specs : List Spec) (w body : List ℕ) (fs : List Field) (r : List ℕ) → 0 < least specs → fields_at specs w ≡ Ok (fs, r)
    → outcome (records_of_body specs w) ≡ outcome (records_of_body specs body) → outcome (records_of_body specs r) ≡ outcome (records_of_body specs body)
next_record specs w body fs r positive h so_far =
    sym (outcome-map (λ rs. fs ∷ rs) (records_of_body specs r)) ∙ ap outcome (sym (records_of_body-next specs w fs r positive h)) ∙ so_far

pub last_record : (specs : List Spec) (w body : List ℕ) → length w < least specs → outcome (records_of_body specs w) ≡ outcome (records_of_body specs body) → IsOk (records_of_body specs body)
last_record specs w body short so_far = was_ok (records_of_body specs body) (sym so_far ∙ ap outcome (records_of_body-rest specs w short))

pub cut_record : (specs : List Spec) (w body : List ℕ) (e : MessageFault) → least specs ≤ length w → fields_at specs w ≡ Err e
    → outcome (records_of_body specs w) ≡ outcome (records_of_body specs body) → records_of_body specs body ≡ Err e
cut_record specs w body e long h so_far = was_err (records_of_body specs body) e (sym so_far ∙ ap outcome (records_of_body-cut specs w e long h))

fails_is : {X : Type 0} (e : MessageFault) (read : Result X MessageFault) → e ≢ faults.OutOfMemory → Fails e read → read ≡ Err e
fails_is faults.OutOfMemory read other fails = absurd (other refl)
fails_is faults.Version read other fails = fails
fails_is faults.MessageLength read other fails = fails
fails_is faults.SetHeader read other fails = fails
fails_is faults.SetLength read other fails = fails
fails_is faults.TemplateId read other fails = fails
fails_is faults.TemplateCut read other fails = fails
fails_is faults.Scope read other fails = fails
fails_is faults.ZeroLength read other fails = fails
fails_is faults.TemplateChanged read other fails = fails
fails_is faults.RecordCut read other fails = fails
fails_is faults.TooManyDomains read other fails = fails
fails_is faults.Spent read other fails = fails
fails_is faults.TooManyFields read other fails = fails

pub cut_is : {X : Type 0} (e : MessageFault) (read : Result X MessageFault) → e ≡ faults.RecordCut → Fails e read → read ≡ Err e
cut_is e read is fails = fails_is e read (λ memory. cut_is_no_lack e is memory) fails
  where
    cut_is_no_lack : (e : MessageFault) → e ≡ faults.RecordCut → e ≡ faults.OutOfMemory → ⊥
    cut_is_no_lack e is memory = cc

-- ---- one set

both_false : (a b : Bool) → (a || b) ≡ false → (a ≡ false) × (b ≡ false)
both_false false false h = (refl, refl)
both_false false true h = absurd cc
both_false true b h = absurd cc

is_not : (n k : ℕ) → eqb n k ≡ false → n ≢ k
is_not n k h same = true_is_not_false (eqb n k) (eq-eqb n k same) h
  where
    true_is_not_false : (b : Bool) → b ≡ true → b ≡ false → ⊥
    true_is_not_false b t f = cc

pub no_plain : (id : ℕ) (body : List ℕ) → is_template_set (set_of id body) ≡ false → id ≢ 2
no_plain id body h = is_not id 2 (both_false (eqb id 2) (eqb id 3) h).0

pub no_options : (id : ℕ) (body : List ℕ) → is_template_set (set_of id body) ≡ false → id ≢ 3
no_options id body h = is_not id 3 (both_false (eqb id 2) (eqb id 3) h).1

ok_has : {X : Type 0} (read : Result X MessageFault) → IsOk read → (x : X) × (read ≡ Ok x)
ok_has (Ok x) h = (x, refl)
ok_has (Err e) h = absurd cc

cut_changes_none : (e : MessageFault) → e ≡ faults.RecordCut → e ≢ faults.TemplateChanged
cut_changes_none e is changed = cc

body_checked : (h : Header) (d : Decoding) (body : List ℕ) (t : Template) (result : Result (Unit {0}) MessageFault) → ChecksBody result t.specs body → Checks result d (data_in h d body (Some t))
unfolding data_in
body_checked h d body t (Ok x) checked =
    let rs = ok_has (records_of_body t.specs body) checked in (
      record d { records = d.records ++ map (record_of h t) rs.0 },
      ap (λ (read : Result (List (List Field)) MessageFault). read >>= λ rs'. Ok (record d { records = d.records ++ map (record_of h t) rs' })) rs.1,
      refl,
    )
body_checked h d body t (Err e) checked = (
  ap (λ (read : Result (List (List Field)) MessageFault). read >>= λ rs'. Ok (record d { records = d.records ++ map (record_of h t) rs' })) checked.1,
  cut_changes_none e checked.0,
)

unknown_body : (h : Header) (d : Decoding) (body : List ℕ) → Checks (Ok tt) d (data_in h d body None)
unfolding data_in
unknown_body h d body = (record d { passed_over = one_unknown d.passed_over }, refl, refl)

pub skipped : (h : Header) (d : Decoding) (id : ℕ) (body : List ℕ) → id ≢ 2 → id ≢ 3 → id < 256 → Checks (Ok tt) d (set_gives h d (set_of id body))
unfolding set_gives
skipped h d id body two three below = (
  record d { passed_over = one_skipped d.passed_over },
  rw (different id 2 two, different id 3 three, lt-ltb id 256 below) refl,
  refl,
)

data_set_is : (h : Header) (d : Decoding) (id : ℕ) (body : List ℕ) → id ≢ 2 → id ≢ 3 → 256 ≤ id → set_gives h d (set_of id body) ≡ data_in h d body (in_force d.events id)
unfolding set_gives
data_set_is h d id body two three above = rw (different id 2 two, different id 3 three, le-ltb id 256 above) refl

pub unknown : (h : Header) (d : Decoding) (id : ℕ) (body : List ℕ) → id ≢ 2 → id ≢ 3 → 256 ≤ id → in_force d.events id ≡ None → Checks (Ok tt) d (set_gives h d (set_of id body))
unknown h d id body two three above none =
    subst (λ (read : Result Decoding MessageFault). Checks (Ok tt) d read) (sym (data_set_is h d id body two three above ∙ ap (data_in h d body) none)) (unknown_body h d body)

pub known : (h : Header) (d : Decoding) (id : ℕ) (body : List ℕ) (t : Template) (result : Result (Unit {0}) MessageFault) → id ≢ 2 → id ≢ 3 → 256 ≤ id → in_force d.events id ≡ Some t
    → ChecksBody result t.specs body → Checks result d (set_gives h d (set_of id body))
known h d id body t result two three above some checked =
    subst (λ (read : Result Decoding MessageFault). Checks result d read) (sym (data_set_is h d id body two three above ∙ ap (data_in h d body) some)) (body_checked h d body t result checked)

-- ---- the loop over the sets

pub record Checking (h : Header) (d : Decoding) (w : List ℕ) (total : Result Decoding MessageFault) : Type 0 where
  pub decoding : Decoding
  pub events : decoding.events ≡ d.events
  pub same : sets_from h decoding w ≡ total

pub starts : (h : Header) (d : Decoding) (w : List ℕ) → Checking h d w (sets_from h d w)
starts h d w = record { decoding = d; events = refl; same = refl }

pub goes_on : (h : Header) (entries : List (ℕ × Template)) (d : Decoding) (w : List ℕ) (s : Set) (r : List ℕ) (total : Result Decoding MessageFault) → next_set w ≡ Ok (s, r)
    → ChecksSet entries s (Ok tt) → Agrees entries d.events → Checking h d w total → Checking h d r total
goes_on h entries d w s r total here checked agrees going =
    let e = going.decoding in
    let c = checked h e (rw going.events agrees) in
    record { decoding = c.0; events = c.2 ∙ going.events; same = sym (sets_from-next h e c.0 w s r here c.1) ∙ going.same }

pub faults_in : (f : MessageFault) (h : Header) (entries : List (ℕ × Template)) (d : Decoding) (w : List ℕ) (s : Set) (r : List ℕ) (total : Result Decoding MessageFault) → next_set w ≡ Ok (s, r)
    → ChecksSet entries s (Err f) → Agrees entries d.events → Checking h d w total → Checks (Err f) d total
faults_in f h entries d w s r total here checked agrees going =
    let e = going.decoding in
    let c = checked h e (rw going.events agrees) in
    (sym going.same ∙ sets_from-fault h e w s r f here c.0, c.1)

-- the fault of what is left of the sets
left_changes_none : (rest : List ℕ) (f : MessageFault) → fault_after_sets rest ≡ Some f → f ≢ faults.TemplateChanged
left_changes_none rest f h = by_tests (eqb (length rest) 0) (ltb (length rest) 4) h
  where
    by_tests : (a b : Bool) → cond a None (cond b (Some faults.SetHeader) (Some faults.SetLength)) ≡ Some f → f ≢ faults.TemplateChanged
    by_tests true b g changed = absurd cc
    by_tests false true g changed = absurd cc
    by_tests false false g changed = absurd cc

pub ends : (f : MessageFault) (h : Header) (d : Decoding) (w : List ℕ) (total : Result Decoding MessageFault) → 0 < length w → f ≢ faults.OutOfMemory
    → Fails f (next_set w) → Checking h d w total → Checks (Err f) d total
ends f h d w total some memory fails going =
    let here = fails_is f (next_set w) memory fails in
    (sym going.same ∙ sets_from-cut h going.decoding w f some here, left_changes_none w f (next_set-fault w f some here))

pub is_done : (h : Header) (d : Decoding) (w : List ℕ) (total : Result Decoding MessageFault) → length w ≡ 0 → Checking h d w total → Checks (Ok tt) d total
is_done h d w total none going = (going.decoding, sym going.same ∙ sets_from-done h going.decoding w none, going.events)

-- ---- whether there is a template set

pub template_set_next : (w : List ℕ) (s : Set) (r : List ℕ) → next_set w ≡ Ok (s, r) → has_template_set w ≡ (is_template_set s || has_template_set r)
template_set_next w s r here = ap (λ (p : Parts Set). list_any is_template_set p.items) (parts_of-next next_set sets_shrink w s r here)

pub template_set_none : (w : List ℕ) → length w ≡ 0 → has_template_set w ≡ false
template_set_none w none =
    let ended = next_set-nil w none in
    ap (λ (p : Parts Set). list_any is_template_set p.items) (parts_of-none next_set w ended.0 ended.1)

pub template_set_cut : (w : List ℕ) (f : MessageFault) → f ≢ faults.OutOfMemory → Fails f (next_set w) → has_template_set w ≡ false
template_set_cut w f memory fails = ap (λ (p : Parts Set). list_any is_template_set p.items) (parts_of-none next_set w f (fails_is f (next_set w) memory fails))

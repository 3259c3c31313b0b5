-- The records of a data set's body.
use Rattle.std.proofs.Common.{◌≡◌, ℕ, ◌<◌, ◌≤◌, Bool, true, false, cond, ltb, List, [], ◌∷◌, ◌++◌, length, map, Result, Ok, Err, refl, sym, ap, subst, ◌∙◌, append_assoc, inl, inr}
use Rattle.std.proofs.lemmas.Bool.{le-ltb, lt-ltb, ltb-true}
use Rattle.std.proofs.lemmas.List.{append-nil}
use Rattle.ipfix_wire.specs.Numbers.{IsOctets}
use Rattle.ipfix_wire.specs.declared.specifier.Spec.{Spec}
use Rattle.ipfix_message.specs.declared.fault.MessageFault.{MessageFault}
use Rattle.ipfix_message.specs.declared.fault.MessageFault.TheVariants.{RecordCut}
use Rattle.ipfix_message.specs.Fields.{Field}
use Rattle.ipfix_message.specs.Outcome.{map_read, Fails}
use Rattle.ipfix_wire.specs.InTurn.{Parts, parts_of}
use Rattle.ipfix_message.specs.SpelledFields.{Spells, least, fields_at}
use Rattle.ipfix_message.specs.DataRecords.{IsBody, finished, records_of_body}
use Rattle.ipfix_message.specs.declared.record.DataRecord.{DataRecord}
use Rattle.ipfix_wire.proofs.Parts.{cons, parts_of-next, parts_of-none, parts_of-found, parts_of-only}
use Rattle.ipfix_wire.proofs.Choices.{chosen}
use Rattle.ipfix_message.proofs.Reading.{ok_is, not_both, Fails-of}
use Rattle.ipfix_message.proofs.RecordFields.{fields_at-fault, fields_read, fields_shrink, fields_at-short}

pub records_of_body-is : (specs : List Spec) (w : List ℕ) → records_of_body specs w ≡ finished (least specs) (parts_of (fields_at specs) w)
unfolding records_of_body
records_of_body-is specs w = refl

-- what is read is a reading of the body
pub records_of_body-found : (specs : List Spec) (w : List ℕ) (rs : List (List Field)) → IsOctets w → records_of_body specs w ≡ Ok rs → IsBody specs rs w
records_of_body-found specs w rs fits h =
    let all = parts_of-found (Spells specs) (fields_at specs) (fields_read specs) w fits in
    let parts = parts_of (fields_at specs) w in
    elim (chosen (ltb (length parts.rest) (least specs)) (Ok parts.items) (Err RecordCut) (Ok rs) (sym (records_of_body-is specs w) ∙ h)) [
      | inl t ↦ subst (λ (xs : List (List Field)). IsBody specs xs w) (ok_is parts.items rs t.1) (record { octets = all.text; padding = parts.rest; whole = all.whole; spelled = all.is; short = ltb-true _ _ t.0 })
      | inr f ↦ absurd (not_both rs RecordCut (sym f.1))
    ]

-- a reading of the body is read
pub records_of_body-only : (specs : List Spec) (w : List ℕ) (rs : List (List Field)) → 0 < least specs → IsBody specs rs w → records_of_body specs w ≡ Ok rs
records_of_body-only specs w rs positive is =
    let all = parts_of-only (Spells specs) (fields_at specs) (fields_read specs) (fields_shrink specs positive) rs is.octets is.padding RecordCut is.spelled (fields_at-short specs is.padding is.short) in
    records_of_body-is specs w ∙ ap (finished (least specs)) (ap (parts_of (fields_at specs)) is.whole ∙ all)
    ∙ rw (lt-ltb (length is.padding) (least specs) is.short) refl

-- ---- a body, record by record as a loop goes

pub records_of_body-next : (specs : List Spec) (w : List ℕ) (fs : List Field) (r : List ℕ) → 0 < least specs → fields_at specs w ≡ Ok (fs, r) → records_of_body specs w ≡ map_read (λ rs. fs ∷ rs) (records_of_body specs r)
records_of_body-next specs w fs r positive h =
    let more = parts_of (fields_at specs) r in
    records_of_body-is specs w ∙ ap (finished (least specs)) (parts_of-next (fields_at specs) (fields_shrink specs positive) w fs r h)
    ∙ finished-cons (least specs) fs more ∙ ap (map_read (λ rs. fs ∷ rs)) (sym (records_of_body-is specs r))
  where
    finished-cons : (n : ℕ) (xs : List Field) (more : Parts (List Field)) → finished n (cons xs more) ≡ map_read (λ rs. xs ∷ rs) (finished n more)
    finished-cons n xs more = by_test (ltb (length more.rest) n)
      where
        by_test : (b : Bool) → cond b (Ok (xs ∷ more.items)) (Err RecordCut) ≡ map_read (λ rs. xs ∷ rs) (cond b (Ok more.items) (Err RecordCut))
        by_test true = refl
        by_test false = refl

pub records_of_body-rest : (specs : List Spec) (w : List ℕ) → length w < least specs → records_of_body specs w ≡ Ok []
records_of_body-rest specs w short =
    records_of_body-is specs w ∙ ap (finished (least specs)) (parts_of-none (fields_at specs) w RecordCut (fields_at-short specs w short))
    ∙ rw (lt-ltb (length w) (least specs) short) refl

pub records_of_body-cut : (specs : List Spec) (w : List ℕ) (e : MessageFault) → least specs ≤ length w → fields_at specs w ≡ Err e → records_of_body specs w ≡ Err e
records_of_body-cut specs w e long h =
    records_of_body-is specs w ∙ ap (finished (least specs)) (parts_of-none (fields_at specs) w e h)
    ∙ rw (le-ltb (length w) (least specs) long) (ap (λ (d : MessageFault). Err d) (sym (fields_at-fault specs w e h)))

-- what was read before, and what is still read
abbrev pub after : {X Y : Type 0} → List Y → (X → Y) → Result (List X) MessageFault → Result (List Y) MessageFault
after front mk read = map_read (λ rs. front ++ map mk rs) read

after-cons : {X Y : Type 0} (front : List Y) (mk : X → Y) (x : X) (read : Result (List X) MessageFault) → after front mk (map_read (λ rs. x ∷ rs) read) ≡ after (front ++ mk x ∷ []) mk read
after-cons front mk x (Ok xs) = ap (λ (ys : List _). Ok ys) (simp append_assoc)
after-cons front mk x (Err e) = refl

pub goes_on : (specs : List Spec) (mk : List Field → DataRecord) (front : List DataRecord) (w : List ℕ) (fs : List Field) (r : List ℕ) (total : Result (List DataRecord) MessageFault) → 0 < least specs
    → fields_at specs w ≡ Ok (fs, r) → after front mk (records_of_body specs w) ≡ total → after (front ++ mk fs ∷ []) mk (records_of_body specs r) ≡ total
goes_on specs mk front w fs r total positive h so_far = sym (after-cons front mk fs (records_of_body specs r)) ∙ ap (after front mk) (sym (records_of_body-next specs w fs r positive h)) ∙ so_far

pub is_done : (specs : List Spec) (mk : List Field → DataRecord) (front : List DataRecord) (w : List ℕ) (total : Result (List DataRecord) MessageFault)
    → length w < least specs → after front mk (records_of_body specs w) ≡ total → total ≡ Ok front
is_done specs mk front w total short so_far = sym so_far ∙ ap (after front mk) (records_of_body-rest specs w short) ∙ ap (λ (rs : List DataRecord). Ok rs) (append-nil front)

pub ends : (e : MessageFault) (specs : List Spec) (mk : List Field → DataRecord) (front : List DataRecord) (w : List ℕ) (total : Result (List DataRecord) MessageFault)
    → least specs ≤ length w → Fails e (fields_at specs w) → after front mk (records_of_body specs w) ≡ total → Fails e total
ends e specs mk front w total long fails so_far = Fails-of e (fields_at specs w) total (λ f h. sym so_far ∙ ap (after front mk) (records_of_body-cut specs w f long h)) fails

-- Reading step by step: a fault of a part is one of the whole.
use Rattle.std.proofs.Common.{◌≡◌, ◌≤◌, ◌-◌, ℕ, List, [], ◌∷◌, Option, None, length, take, drop, sym, ap, subst, ◌∙◌, arith}
use Rattle.std.specs.Prelude.{Result, Ok, Err, slice_index_or}
use Rattle.std.proofs.Math.Seq.{take-length}
use Rattle.element_registry.specs.declared.columns.Columns.{Columns}
use Rattle.element_registry.specs.declared.added.Added.{Added}
use Rattle.element_registry.specs.declared.fault.ElementsError.{ElementsError}
use Rattle.element_registry.specs.declared.fault.ElementsFault.{ElementsFault}
use Rattle.element_registry.specs.declared.fault.ElementsFault.TheVariants.{Column, NotCsv, Number, Enterprise, Name, NumberTwice, NameTwice, TooMany, OutOfMemory}
use Rattle.element_registry.specs.Faults.{Read, Fails, fault_of}
use Rattle.element_registry.specs.declared.rows.Row.{Row}
use Rattle.element_registry.specs.Files.{AreRows, FailsAt, FailsOn, IsOfBody, IsOfRows, IsOfText, fault_line, fields_in, file_line, unknown_line, unless, with_entry_if, with_file, with_row, with_rows}
use Rattle.element_registry.specs.Registries.{Known}
use Rattle.element_registry.specs.TextLines.{line_at}
use Rattle.element_registry.specs.Rows.{and_then, columns_in, entry_in}

pub fails_then : {X Y : Type 0} (fault : ElementsFault) (r : Read X) (f : X → Read Y) → Fails fault r → Fails fault (and_then r f)
fails_then OutOfMemory r f h = tt
fails_then NotCsv r f h = ap (λ x. and_then x f) h
fails_then (Column heading) r f h = ap (λ x. and_then x f) h
fails_then Number r f h = ap (λ x. and_then x f) h
fails_then Enterprise r f h = ap (λ x. and_then x f) h
fails_then Name r f h = ap (λ x. and_then x f) h
fails_then NumberTwice r f h = ap (λ x. and_then x f) h
fails_then NameTwice r f h = ap (λ x. and_then x f) h
fails_then TooMany r f h = ap (λ x. and_then x f) h

pub goes_on : {X Y : Type 0} (r : Read X) (x : X) (f : X → Read Y) → r ≡ Ok x → and_then r f ≡ f x
goes_on r x f h = ap (λ y. and_then y f) h

-- a fault and its line, from what failed
pub fails_at : {X Y : Type 0} (fault : ElementsFault) (line at : ℕ) (r : Read X) (s : Read Y) → Fails fault r → (r ≡ Err fault → (s ≡ Err fault) × (line ≡ at)) → FailsAt fault line s at
fails_at OutOfMemory line at r s h f = tt
fails_at NotCsv line at r s h f = f h
fails_at (Column heading) line at r s h f = f h
fails_at Number line at r s h f = f h
fails_at Enterprise line at r s h f = f h
fails_at Name line at r s h f = f h
fails_at NumberTwice line at r s h f = f h
fails_at NameTwice line at r s h f = f h
fails_at TooMany line at r s h f = f h

-- the same of a part
fails_at_too : {X Y : Type 0} (fault : ElementsFault) (line part at : ℕ) (r : Read X) (s : Read Y) → (r ≡ Err fault → (s ≡ Err fault) × (part ≡ at)) → FailsAt fault line r part → FailsAt fault line s at
fails_at_too OutOfMemory line part at r s f h = tt
fails_at_too NotCsv line part at r s f h = let both = f h.0 in (both.0, h.1 ∙ both.1)
fails_at_too (Column heading) line part at r s f h = let both = f h.0 in (both.0, h.1 ∙ both.1)
fails_at_too Number line part at r s f h = let both = f h.0 in (both.0, h.1 ∙ both.1)
fails_at_too Enterprise line part at r s f h = let both = f h.0 in (both.0, h.1 ∙ both.1)
fails_at_too Name line part at r s f h = let both = f h.0 in (both.0, h.1 ∙ both.1)
fails_at_too NumberTwice line part at r s f h = let both = f h.0 in (both.0, h.1 ∙ both.1)
fails_at_too NameTwice line part at r s f h = let both = f h.0 in (both.0, h.1 ∙ both.1)
fails_at_too TooMany line part at r s f h = let both = f h.0 in (both.0, h.1 ∙ both.1)

pub entry_fails : (at : Columns) (known : List Known) (row : List (List ℕ)) (fault : ElementsFault) → Fails fault (entry_in at row) → Fails fault (with_row at known row)
entry_fails at known row fault h = fails_then fault (entry_in at row) (with_entry_if known) h

pub entry_given : (at : Columns) (known : List Known) (row : List (List ℕ)) (o : Option Known) → entry_in at row ≡ Ok o → with_row at known row ≡ with_entry_if known o
entry_given at known row o h = goes_on (entry_in at row) o (with_entry_if known) h

-- the rows after the first
rest_of : (r : Row) (rows : List Row) → take (length (r ∷ rows) - 1) (drop 1 (r ∷ rows)) ≡ rows
rest_of r rows = let left : length (r ∷ rows) - 1 ≡ length rows = omega arith in ap (λ (n : ℕ). take n rows) left ∙ take-length rows

-- the first of the rows that are left
pub rows_fail : (text : List ℕ) (at : Columns) (known : List Known) (rows : List Row) (d row : Row) (fault said : ElementsFault) (line place : ℕ) (read : Read (List Known))
    → 1 ≤ length rows → row ≡ slice_index_or rows 0 d → said ≡ fault → line ≡ line_at text row.place → with_rows at known rows ≡ read → fault_line text at known rows ≡ place
    → Fails fault (with_row at known (fields_in row)) → FailsAt said line read place
rows_fail text at known [] d row fault said line place read more is same on reads places h = absurd (omega (arith, more))
rows_fail text at known (r ∷ rows) d row fault said line place read more is same on reads places h =
    subst (λ (f : ElementsFault). FailsAt f line read place) (sym same) (fails_at fault line place (with_row at known (fields_in row)) read h (λ failed.
    let first : with_row at known (fields_in r) ≡ Err fault = ap (λ (x : Row). with_row at known (fields_in x)) (sym is) ∙ failed in (
      sym reads ∙ ap (λ (x : Read (List Known)). and_then x (λ more. with_rows at more rows)) first,
      on ∙ ap (λ (x : Row). line_at text x.place) is ∙ sym (ap (λ (x : Read (List Known)). unless (line_at text r.place) x (λ more. fault_line text at more rows)) first) ∙ places,
    )))

pub rows_go_on : (text : List ℕ) (at : Columns) (known more : List Known) (rows : List Row) (d row : Row) → 1 ≤ length rows → row ≡ slice_index_or rows 0 d → with_row at known (fields_in row) ≡ Ok more
    → (with_rows at more (take (length rows - 1) (drop 1 rows)) ≡ with_rows at known rows) × (fault_line text at more (take (length rows - 1) (drop 1 rows)) ≡ fault_line text at known rows)
rows_go_on text at known more [] d row some is h = absurd (omega (arith, some))
rows_go_on text at known more (r ∷ rows) d row some is h =
    let first : with_row at known (fields_in r) ≡ Ok more = ap (λ (x : Row). with_row at known (fields_in x)) (sym is) ∙ h in (
      ap (λ (xs : List Row). with_rows at more xs) (rest_of r rows) ∙ sym (ap (λ (x : Read (List Known)). and_then x (λ more. with_rows at more rows)) first),
      ap (λ (xs : List Row). fault_line text at more xs) (rest_of r rows) ∙ sym (ap (λ (x : Read (List Known)). unless (line_at text r.place) x (λ more. fault_line text at more rows)) first),
    )

-- ---- a file, by its heading and its rows

pub heading_fails : (text : List ℕ) (known : List Known) (rows : List Row) (d heading : Row) (fault said : ElementsFault) (line : ℕ) → 1 ≤ length rows → heading ≡ slice_index_or rows 0 d → said ≡ fault → line ≡ 1
    → Fails fault (columns_in (fields_in heading)) → FailsAt said line (with_file known rows) (file_line text known rows)
heading_fails text known [] d heading fault said line some is same on h = absurd (omega (arith, some))
heading_fails text known (r ∷ rows) d heading fault said line some is same on h =
    subst (λ (f : ElementsFault). FailsAt f line (with_file known (r ∷ rows)) (file_line text known (r ∷ rows))) (sym same) (fails_at fault line _ (columns_in (fields_in heading)) _ h (λ failed.
    let first : columns_in (fields_in r) ≡ Err fault = ap (λ (x : Row). columns_in (fields_in x)) (sym is) ∙ failed in (
      ap (λ (x : Read Columns). and_then x (λ at. with_rows at known rows)) first,
      on ∙ sym (ap (λ (x : Read Columns). unless 1 x (λ at. fault_line text at known rows)) first),
    )))

pub of_body : (text : List ℕ) (known : List Known) (at : Columns) (rows : List Row) (d heading : Row) (answer : Result Added ElementsError) → 1 ≤ length rows → heading ≡ slice_index_or rows 0 d
    → columns_in (fields_in heading) ≡ Ok at → IsOfBody text at known (take (length rows - 1) (drop 1 rows)) answer → IsOfRows text known rows answer
of_body text known at [] d heading answer some is read body = absurd (omega (arith, some))
of_body text known at (r ∷ rows) d heading answer some is read body = whole answer (subst (λ (xs : List Row). IsOfBody text at known xs answer) (rest_of r rows) body)
  where
    first : columns_in (fields_in r) ≡ Ok at
    first = ap (λ (x : Row). columns_in (fields_in x)) (sym is) ∙ read

    whole : (answered : Result Added ElementsError) → IsOfBody text at known rows answered → IsOfRows text known (r ∷ rows) answered
    whole (Ok added) of =
        (ap (λ (x : Read Columns). and_then x (λ at. with_rows at known rows)) first ∙ of.0, of.1 ∙ sym (ap (λ (x : Read Columns). unless None x (λ at. unknown_line text at rows)) first))
    whole (Err error) of =
        fails_at_too (fault_of error) error.line (fault_line text at known rows) (file_line text known (r ∷ rows)) (with_rows at known rows) (with_file known (r ∷ rows))
        (λ failed. (ap (λ (x : Read Columns). and_then x (λ at. with_rows at known rows)) first ∙ failed, sym (ap (λ (x : Read Columns). unless 1 x (λ at. fault_line text at known rows)) first))) of

-- what is answered of rows is answered of their text
pub of_rows : (known : List Known) (text : List ℕ) (rows : List Row) (answer : Result Added ElementsError) → AreRows text rows → IsOfRows text known rows answer → IsOfText known text answer
of_rows known text rows (Ok added) are h = (rows, are, h)
of_rows known text rows (Err error) are h = fails_on (fault_of error) h
  where
    fails_on : (fault : ElementsFault) → FailsAt fault error.line (with_file known rows) (file_line text known rows) → FailsOn known text fault error.line
    fails_on OutOfMemory h = tt
    fails_on NotCsv h = (rows, are, h.0, h.1)
    fails_on (Column heading) h = (rows, are, h.0, h.1)
    fails_on Number h = (rows, are, h.0, h.1)
    fails_on Enterprise h = (rows, are, h.0, h.1)
    fails_on Name h = (rows, are, h.0, h.1)
    fails_on NumberTwice h = (rows, are, h.0, h.1)
    fails_on NameTwice h = (rows, are, h.0, h.1)
    fails_on TooMany h = (rows, are, h.0, h.1)

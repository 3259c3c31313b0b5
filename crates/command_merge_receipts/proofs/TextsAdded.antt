-- Texts that are added as they are.
use Rattle.std.proofs.Common.{◌≡◌, ℕ, true, List, [], ◌++◌, Option, Some, None, Result, Ok, Err, refl, sym, ap, ◌∙◌, subst, append-nil}
use Rattle.std.specs.Prelude.{IfOk}
use Rattle.std.specs.Io.KnownBytes.{Consumes}
use Rattle.std.specs.Option.{ForSome}
use Rattle.ipfix_session.specs.Sources.{SourceView}
use Rattle.flow_table.specs.SameTables.{RowValue}
use Rattle.flow_merge.specs.Merging.{AddsExport, IsExportIn, ReadsExport, merging_intervals, merging_plan}
use Rattle.flow_merge.specs.declared.merging.Merging.{Merging}
use Rattle.command_merge_receipts.specs.Tables.{AddsAll, AddsRows}

gave_some : (before after : Option (List ℕ)) (text gave : List ℕ) → before ≡ Some text → Consumes before after gave → (left : List ℕ) × (text ≡ gave ++ left) × (after ≡ Some left)
gave_some before None text gave held octets = absurd (subst (λ (b : Option (List ℕ)). Consumes b None gave) held octets)
gave_some before (Some left) text gave held octets = (left, subst (λ (b : Option (List ℕ)). Consumes b (Some left) gave) held octets, refl)

-- a source that has shown its end gave all that it held
gave_all : (before after : SourceView) (text gave : List ℕ) → before.text ≡ Some text → Consumes before.text after.text gave → (after.ended ≡ true → ForSome after.text (λ xs. xs ≡ [])) → after.ended ≡ true → gave ≡ text
gave_all before after text gave held octets at_end ended =
    let some = gave_some before.text after.text text gave held octets in
    sym (some.1 ∙ ap (λ (l : List ℕ). gave ++ l) (at_end ended some.0 some.2) ∙ append-nil gave)

-- so an export that it gave is the text that it held
pub adds_rows : {S : Type 0} (seen : S → SourceView) (limit : ℕ) (old new : Merging) (before after : S) (text : List ℕ) (rows : List RowValue) → (seen before).text ≡ Some text → ((seen after).ended ≡ true → ForSome (seen after).text (λ xs. xs ≡ []))
    → AddsExport seen limit old before after rows new → AddsRows old text rows new
adds_rows seen limit old new before after text rows held at_end adds =
    let read = adds.gives_export in
    let whole : read.gave ≡ text = gave_all (seen before) (seen after) text read.gave held read.given.octets at_end read.given.fault_is_due.1 in
    record { more = adds.more; export = subst (λ (w : List ℕ). IsExportIn (merging_intervals old) (merging_plan old) w adds.more) whole read.export; stands = adds.stands }

pub adds_if_ok : {S E : Type 0} (seen : S → SourceView) (limit : ℕ) (old : Merging) (before after : S) (text : List ℕ) (answer : Result Merging E) → (seen before).text ≡ Some text → ((seen after).ended ≡ true → ForSome (seen after).text (λ xs. xs ≡ []))
    → ReadsExport seen limit old before after answer → IfOk answer (AddsAll old text)
adds_if_ok seen limit old before after text (Ok new) held at_end adds = λ rows stands. adds_rows seen limit old new before after text rows held at_end (adds rows stands)
adds_if_ok seen limit old before after text (Err e) held at_end adds = tt

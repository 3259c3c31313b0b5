-- How a merge of parts ended.
use Rattle.std.proofs.Common.{◌≡◌, ℕ, List, [], ◌∷◌, ◌++◌, map, Option, refl, ap, inl, inr}
use Rattle.std.specs.Prelude.{◌⊎◌}
use Rattle.report_writing.specs.Told.{AreTold}
use Rattle.report_writing.specs.declared.verbosity.Verbosity.{Verbosity}
use Rattle.report_writing.proofs.LinesTold.{both_told}
use Rattle.receipt_merging.specs.Parts.{PartValue}
use Rattle.command_merge.specs.declared.not_merged.NotMerged.TheVariants.{NotOpened, File, Whole}
use Rattle.table_parts.specs.Parts.{AreParts}
use Rattle.table_parts.specs.Tables.{tables_said}
use Rattle.table_parts.specs.declared.files.PartFiles.{PartFiles}
use Rattle.table_parts.specs.declared.plan.PlanAtHand.{PlanAtHand}
use Rattle.table_parts.specs.declared.tables.PartTable.{PartTable}
use Rattle.command_merge_receipts.specs.Stops.{StopsAt, StopsTables, names_in}
use Rattle.command_merge_receipts.specs.declared.not_merged.NotMergedParts.{NotMergedParts}
use Rattle.command_merge_receipts.specs.declared.not_merged.NotMergedParts.TheVariants.{NotMerged, Receipt, Part, InputTwice}

abbrev pub table_path : PartFiles → List ℕ
table_path files = files.table.now

-- the tables that receipts tell of are those of the parts
pub names_said : (Has : List ℕ → List ℕ → Type 0) (plan : PlanAtHand) (all : List PartFiles) (parts : List PartValue) → AreParts Has plan all parts → names_in (tables_said all parts) ≡ map table_path all
names_said Has plan [] [] read = refl
names_said Has plan [] (p ∷ parts) read = absurd read
names_said Has plan (f ∷ all) [] read = absurd read
names_said Has plan (f ∷ all) (p ∷ parts) read = ap (λ (l : List (List ℕ)). f.table.now ∷ l) (names_said Has plan all parts read.1)

-- what was told by then, and then these lines
module _ (Fails : List PartTable → PartTable → NotMergedParts → Type 0) (verbosity : Verbosity) (old mid new : Option (List ℕ)) (Before After : Type 0) (lines : List ℕ) (then : AreTold mid new After lines) (kept : Before → After) where
  abbrev Then : List ℕ → Type 0
  Then first = AreTold old new After (first ++ lines)

  stopped_at : (not_merged : NotMergedParts) → StopsAt Fails verbosity (AreTold old mid Before) not_merged → StopsAt Fails verbosity Then not_merged
  stopped_at not_merged s = record { before = s.before; table = s.table; fails = s.fails; told = both_told old mid new Before After _ lines s.told then kept }

  either : (tables : List PartTable) (one other : List ℕ) → AreTold old mid Before one ⊎ AreTold old mid Before other → Then one ⊎ Then other
  either tables one other (inl first) = inl (both_told old mid new Before After one lines first then kept)
  either tables one other (inr first) = inr (both_told old mid new Before After other lines first then kept)

  pub tells_stopped : (tables : List PartTable) (not_merged : NotMergedParts) → StopsTables Fails tables verbosity (AreTold old mid Before) not_merged → StopsTables Fails tables verbosity Then not_merged
  tells_stopped tables (NotMerged (Whole fault)) s = (s.0, either tables _ _ s.1)
  tells_stopped tables (NotMerged (NotOpened path reason)) s = stopped_at (NotMerged (NotOpened path reason)) s
  tells_stopped tables (NotMerged (File number path fault)) s = stopped_at (NotMerged (File number path fault)) s
  tells_stopped tables (Receipt number files why) s = stopped_at (Receipt number files why) s
  tells_stopped tables (Part number files fault) s = stopped_at (Part number files fault) s
  tells_stopped tables (InputTwice number files inputs first second) s = stopped_at (InputTwice number files inputs first second) s

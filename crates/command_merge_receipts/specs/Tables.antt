-- Tables that are merged as their receipts say them.
use Rattle.std.specs.Prelude.{◌≡◌, ℕ, List, ◌++◌, Some}
use Rattle.std.specs.Borrow.{Bor}
use Rattle.std.specs.List.{AllZip, flat_map}
use Rattle.std.specs.contracts.io.impls.RefSliceU8Read.TheImpl as octets
use Rattle.ipfix_session.specs.Sources.{SourceView, unread}
use Rattle.ipfix_session.specs.declared.driver.TheConstants.{READ_LIMIT}
use Rattle.ipfix_session.specs.declared.reader.FromReader.{FromReader}
use Rattle.flow_export.specs.declared.intervals.Intervals.{Intervals}
use Rattle.flow_table.specs.AddedUp.{rows_in, AreAddedUp}
use Rattle.flow_table.specs.Plans.{PlanValue}
use Rattle.flow_table.specs.SameTables.{RowValue}
use Rattle.flow_table.specs.declared.table.Table.{Table}
use Rattle.flow_merge.specs.Merging.{ForRowsOf, IsDueIn, IsExportIn, StandsFor, merging_intervals, merging_plan}
use Rattle.flow_merge.specs.declared.merge_fault.MergeFault.{MergeFault}
use Rattle.flow_merge.specs.declared.merging.Merging.{Merging}
use Rattle.command_merge.specs.declared.job.MergeJob.{MergeJob}
use Rattle.command_merge_receipts.specs.declared.adding.Against.{Against}
use Rattle.command_merge_receipts.specs.declared.adding.Against.TheVariants.{NotItsTable, Merge}
use Rattle.table_parts.specs.Tables.{IsItsTable}
use Rattle.table_parts.specs.declared.tables.PartTable.{PartTable}

-- a source that holds the octets of a text, and what contracts see of it
abbrev pub TextSource : Type 0
TextSource = FromReader (Bor (List ℕ)) octets.ghosts

abbrev pub text_seen : TextSource → SourceView
text_seen source = record { text = Some source.reader.now; reads = source.reads; failed = source.failed; ended = source.ended }

-- the path of a table has this text, which is the one of its receipt
pub record IsTableText (Has : List ℕ → List ℕ → Type 0) (table : PartTable) (text : List ℕ) : Type 0 where
  pub has : Has table.files.table.now text
  pub its : IsItsTable table text

-- the rows of exports, one export after another
abbrev pub rows_of : List (List RowValue) → List RowValue
rows_of exports = flat_map (λ rows. rows) exports

-- of each of these tables the text was had, which is the one of its receipt, and it is an export of these rows
pub record AreExports (Has : List ℕ → List ℕ → Type 0) (intervals : Intervals) (plan : PlanValue) (tables : List PartTable) (exports : List (List RowValue)) : Type 0 where
  pub texts : List (List ℕ)
  pub had : AllZip (IsTableText Has) tables texts
  pub given : AllZip (IsExportIn intervals plan) texts exports

-- and their rows, added up, are those of a table
pub record AreMergedInto (Has : List ℕ → List ℕ → Type 0) (job : MergeJob) (tables : List PartTable) (table : Table) : Type 0 where
  pub exports : List (List RowValue)
  pub are : AreExports Has job.intervals job.plan.now tables exports
  pub added_up : AreAddedUp (rows_of exports) (rows_in table)

-- ---- one more

-- the rows of a text that is an export are added to those before
pub record AddsRows (old : Merging) (text : List ℕ) (rows : List RowValue) (new : Merging) : Type 0 where
  pub more : List RowValue
  pub export : IsExportIn (merging_intervals old) (merging_plan old) text more
  pub stands : StandsFor new (rows ++ more)

-- whatever rows those were
abbrev pub AddsAll : Merging → List ℕ → Merging → Type 0
AddsAll old text new = ForRowsOf old (λ rows. AddsRows old text rows new)

-- and the text is the one of its receipt
pub record AddsText (table : PartTable) (text : List ℕ) (old new : Merging) : Type 0 where
  pub its : IsItsTable table text
  pub same_plan : merging_plan new ≡ merging_plan old
  pub same_intervals : merging_intervals new ≡ merging_intervals old
  pub adds : AddsAll old text new

-- a text isn't added to rows for this reason, as a source that holds it and was not read before is not
pub record CannotAddText (intervals : Intervals) (plan : PlanValue) (rows : List RowValue) (text : List ℕ) (fault : MergeFault) : Type 0 where
  pub before : TextSource
  pub after : TextSource
  pub holds : text_seen before ≡ unread (Some text)
  pub due : IsDueIn text_seen READ_LIMIT intervals plan rows before after fault

-- why a text is not added: it is another than its receipt says; or else what it holds is not added to the rows before
abbrev pub IsAgainst : Merging → PartTable → List ℕ → Against → Type 0
IsAgainst merging table text NotItsTable = IsItsTable table text → ⊥
IsAgainst merging table text (Merge fault) =
    IsItsTable table text × ForRowsOf merging (λ rows. CannotAddText (merging_intervals merging) (merging_plan merging) rows text fault)

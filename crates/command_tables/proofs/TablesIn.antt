-- Exports that are no tables, and the table of one.
use Rattle.std.proofs.Common.{◌≡◌, List, [], ℕ, Some, Result, Ok, Err, sym, subst}
use Rattle.std.specs.Prelude.{IfErr, IfOk}
use Rattle.std.specs.Result.{IsErrAnd}
use Rattle.ipfix_session.specs.Sources.{unread}
use Rattle.ipfix_session.specs.declared.driver.TheConstants.{READ_LIMIT}
use Rattle.flow_export.specs.declared.intervals.Intervals.TheVariants.{OfPlan}
use Rattle.flow_table.specs.AddedUp.{rows_in, AreAddedUp}
use Rattle.flow_table.specs.Plans.{PlanValue}
use Rattle.flow_table.specs.SameTables.{RowValue}
use Rattle.flow_table.specs.declared.table.Table.{Table}
use Rattle.flow_merge.specs.Merging.{CannotAdd, IsDueIn, IsExportIn, StandsFor, merging_intervals, merging_plan}
use Rattle.flow_merge.specs.declared.merge_fault.MergeFault.{MergeFault}
use Rattle.flow_merge.specs.declared.merge_fault.MergeFault.TheVariants.{OutOfMemory, SumTooLarge, Session, NotAnExport, Lost, Row, Border}
use Rattle.flow_merge.specs.declared.merging.Merging.{Merging}
use Rattle.command_merge_receipts.specs.Tables.{AddsRows, TextSource, text_seen}
use Rattle.command_tables.specs.Texts.{CannotMerge, IsNoExport, IsTableOf}

module _ (plan : PlanValue) (text : List ℕ) where
  no_export : (fault : MergeFault) → IsNoExport plan text fault → CannotMerge plan text fault
  no_export OutOfMemory is = tt
  no_export SumTooLarge is = is
  no_export (Session fault) is = is
  no_export NotAnExport is = is
  no_export Lost is = is
  no_export (Row fault) is = is
  no_export (Border row) is = is

  pub without_memory : (fault : MergeFault) → fault ≡ OutOfMemory → CannotMerge plan text fault
  without_memory fault is = subst (λ f. CannotMerge plan text f) (sym is) tt

  -- a source that holds the text was not added to no rows
  pub cannot_merge : (merging : Merging) (before after : TextSource) (fault : MergeFault) → merging_plan merging ≡ plan → merging_intervals merging ≡ OfPlan → text_seen before ≡ unread (Some text)
      → CannotAdd text_seen READ_LIMIT merging [] before after fault → CannotMerge plan text fault
  cannot_merge merging before after fault of_plan intervals holds cannot = no_export fault (record {
    before = before;
    after = after;
    holds = holds;
    due = subst (λ p. IsDueIn text_seen READ_LIMIT OfPlan p [] before after fault) of_plan
        (subst (λ i. IsDueIn text_seen READ_LIMIT i (merging_plan merging) [] before after fault) intervals cannot);
  })

-- the rows that were added to none are those of the table
pub is_table : (merging new : Merging) (plan : PlanValue) (text : List ℕ) (table : Table) → merging_plan merging ≡ plan → merging_intervals merging ≡ OfPlan → AddsRows merging text [] new
    → ((rows : List RowValue) → StandsFor new rows → AreAddedUp rows (rows_in table)) → IsTableOf plan text table
is_table merging new plan text table of_plan intervals adds added_up = record {
  rows = adds.more;
  export = subst (λ p. IsExportIn OfPlan p text adds.more) of_plan (subst (λ i. IsExportIn i (merging_plan merging) text adds.more) intervals adds.export);
  added_up = added_up adds.more adds.stands;
}

pub is_table_if : (merging new : Merging) (plan : PlanValue) (text : List ℕ) (answer : Result Table MergeFault) → merging_plan merging ≡ plan → merging_intervals merging ≡ OfPlan → AddsRows merging text [] new
    → ((rows : List RowValue) → StandsFor new rows → IfOk answer (λ table. AreAddedUp rows (rows_in table))) → IfOk answer (IsTableOf plan text)
is_table_if merging new plan text (Ok table) of_plan intervals adds added_up = is_table merging new plan text table of_plan intervals adds added_up
is_table_if merging new plan text (Err fault) of_plan intervals adds added_up = tt

-- an error that is passed on
pub passed_on : {T E : Type 0} (answer : Result T E) (passed : E) (P : E → Type 0) → IsErrAnd answer (λ e. e ≡ passed) → P passed → IfErr answer P
passed_on (Ok x) passed P is p = tt
passed_on (Err e) passed P is p = subst P (sym is) p

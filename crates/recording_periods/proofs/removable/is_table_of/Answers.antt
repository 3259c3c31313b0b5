use Rattle.std.proofs.Common.{Some, subst}
use Rattle.recording_periods.specs.TableStates.{IsTableState}
use Rattle.recording_periods.specs.declared.due_tables.TableState.TheVariants.{UpToDate}
use Rattle.recording_periods.specs.Whether.{Whether}
use Rattle.recording_periods.proofs.removable.is_table_of.Goals as goal

pub returns-in-Some : goal.returns-in-Some
returns-in-Some c =
    rw c.in-Some.is (subst (λ paths. Whether c.are_exactly.result (IsTableState c.args.files.now (Some paths) UpToDate)) c.deref.ensures.value c.are_exactly.ensures)

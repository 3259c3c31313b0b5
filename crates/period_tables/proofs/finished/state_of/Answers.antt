use Rattle.std.proofs.Common.{Some, subst}
use Rattle.recording_periods.specs.TableStates.{IsTableState}
use Rattle.period_tables.proofs.finished.state_of.Goals as goal

pub returns-in-Some : goal.returns-in-Some
returns-in-Some c = rw c.in-Some.is (subst (λ paths. IsTableState c.args.files.now (Some paths) c.table_state.result) c.as_slice.ensures.value c.table_state.ensures)

use Rattle.recording_periods.proofs.OneState.{not_if_it_waits}
use Rattle.recording_periods.proofs.removable.is_finished.Goals as goal

pub returns-in_default : goal.returns-in_default
returns-in_default c = not_if_it_waits c.args.rule c.args.now c.args.unfinished.now c.args.period.begins c.period_state.result c.in_default.not-Finished c.period_state.ensures

use Rattle.recording_periods.proofs.OneState.{not_if_due, not_if_gone}
use Rattle.recording_periods.proofs.removable.are_exactly.Goals as goal

pub returns-in-Due : goal.returns-in-Due
returns-in-Due c = not_if_due c.args.files.now c.args.paths.now c.in-Due.ensures

pub returns-in-Gone : goal.returns-in-Gone
returns-in-Gone c = not_if_gone c.args.files.now c.args.paths.now c.in-Gone.field-0 c.in-Gone.ensures

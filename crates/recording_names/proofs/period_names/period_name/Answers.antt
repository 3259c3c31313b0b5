use Rattle.std.proofs.Common.{append_assoc, rules}
use Rattle.recording_names.proofs.period_names.period_name.Goals as goal

pub returns : goal.returns
returns c = (c.in-Ok.date, let h = c.from.ensures in search (rules, c.in-Ok.ensures.value, c.from.ensures), search (rules, append_assoc))

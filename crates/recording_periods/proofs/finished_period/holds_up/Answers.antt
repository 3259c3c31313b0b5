use Rattle.std.proofs.Common.{arith}
use Rattle.recording_periods.proofs.Holding.{held_or_not}
use Rattle.recording_periods.proofs.finished_period.holds_up.Goals as goal

pub returns-in-Some : goal.returns-in-Some
returns-in-Some c = held_or_not c.args.period.begins c.in-Some.told.period.begins c.in-Some.told.session.now c.args.name.now (omega arith) c.in-Some.ensures.some

pub returns-in-None : goal.returns-in-None
returns-in-None c = λ h. c.in-None.ensures.none (record { period = h.period; session = h.session; in_calendar = h.in_calendar; named = h.named })

use Rattle.command_tables.proofs.OneDay.{one_day}
use Rattle.command_tables.proofs.days.laws.periods_begin_in_one_day.Goals as goal

pub returns : goal.returns
returns c = one_day

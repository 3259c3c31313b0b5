use Rattle.local_days.proofs.OneDay.{day_once}
use Rattle.local_days.proofs.laws.seconds_are_in_one_interval.Goals as goal

pub returns : goal.returns
returns c = day_once

use Rattle.std.proofs.Common.{◌≡◌, [], length}
use Rattle.command_tables.specs.Days.{days_from}
use Rattle.command_tables.proofs.days.placing.days_of.Given as goal

-- those of the periods that are left come after those that are there
abbrev pub invariant-loop-one : goal.invariant-loop-one
invariant-loop-one l = days_from l.days.items l.left ≡ days_from [] l.placed

abbrev pub decreases-loop-one : goal.decreases-loop-one
decreases-loop-one l = length l.left

use Rattle.std.proofs.Common.{ℕ, ◌^◌, ◌<◌}
use Rattle.flow_table.specs.AddedUp.{place}
use Rattle.flow_table.specs.SameTables.{value_of}
use Rattle.largest_sessions.specs.Walks.{first_numbers}
use Rattle.largest_sessions.proofs.walk.large_number.Given as goal

abbrev pub invariant-loop-number : goal.invariant-loop-number
invariant-loop-number l = (m : ℕ) → m < l.number → first_numbers l.cursors (place (value_of l.place)) m < 2 ^ 64

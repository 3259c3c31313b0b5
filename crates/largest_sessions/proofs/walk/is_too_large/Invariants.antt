use Rattle.std.proofs.Common.{◌≡◌, ◌^◌, ◌<◌, take}
use Rattle.flow_table.specs.AddedUp.{place}
use Rattle.flow_table.specs.SameTables.{value_of}
use Rattle.largest_sessions.specs.Walks.{first_numbers}
use Rattle.largest_sessions.proofs.walk.is_too_large.Given as goal

abbrev pub invariant-loop-cursor : goal.invariant-loop-cursor
invariant-loop-cursor l = record {
  sum : l.total ≡ first_numbers (take l.cursor-index l.cursors) (place (value_of l.place)) l.number;
  small : l.total < 2 ^ 64;
}

use Rattle.std.proofs.Common.{◌≡◌, ◌++◌, map, take, drop}
use Rattle.flow_table.specs.AddedUp.{place}
use Rattle.flow_table.specs.SameTables.{value_of}
use Rattle.largest_sessions.specs.Walks.{after_place}
use Rattle.largest_sessions.proofs.walk.pass_place.Given as goal

abbrev pub invariant-loop-cursor : goal.invariant-loop-cursor
invariant-loop-cursor l =
    l.cursor-items ≡ map (after_place (place (value_of l.place))) (take l.cursor-index l.initial.cursor-items) ++ drop l.cursor-index l.initial.cursor-items

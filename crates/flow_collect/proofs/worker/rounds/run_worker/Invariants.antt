use Rattle.std.proofs.Common.{◌≡◌, map}
use Rattle.flow_table.specs.Partials.{plan_of}
use Rattle.flow_collect.specs.LinkEnds.{link_end_key, StandsForLinkEnds}
use Rattle.flow_collect.proofs.worker.rounds.run_worker.Given as goal

abbrev pub invariant-loop : goal.invariant-loop
invariant-loop g l =
    (map link_end_key l.link_ends.items ≡ map link_end_key l.initial.link_ends.items)
    × (plan_of l.partial ≡ plan_of l.initial.partial)
    × StandsForLinkEnds l.partial l.link_ends.items

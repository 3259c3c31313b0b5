use Rattle.std.proofs.Common.{◌≡◌, vec_len}
use Rattle.flow_collect.specs.LinkEnds.{RoundsInto}
use Rattle.flow_collect.proofs.worker.rounds.go_round.Given as goal

abbrev pub invariant-loop-place : goal.invariant-loop-place
invariant-loop-place g l = (l.place-end ≡ vec_len l.link_ends) × RoundsInto l.initial.link_ends.items l.initial.partial l.link_ends.items l.partial

use Rattle.std.proofs.Common.{◌<◌, length, arith}
use Rattle.flow_collect.proofs.LinkEndLists.{rounds_on, rounds_none}
use Rattle.flow_collect.proofs.worker.rounds.go_round.Goals as goal

pub loop-place-init : goal.loop-place-init
loop-place-init g c = (c.len-place-end.ensures, rounds_none _ _)

pub loop-place-preserved : goal.loop-place-preserved
loop-place-preserved g c =
    let in_range : c.loop-place.place < length c.loop-place.link_ends.items = omega (arith, c.loop-place.link_ends.ok.0) in (
      c.loop-place.invariant.0,
      rounds_on _ _ _ _ _ _ _ _ in_range c.index_mut.ensures.value c.loop-place.invariant.1 c.try_link_end.ensures,
    )

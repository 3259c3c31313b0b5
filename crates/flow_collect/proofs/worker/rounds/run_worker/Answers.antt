use Rattle.std.proofs.Common.{◌∙◌, refl, subst}
use Rattle.std.specs.Prelude.{All}
use Rattle.flow_collect.specs.LinkEnds.{IsEnded}
use Rattle.flow_collect.proofs.LinkEndLists.{stands_first, stands_on, worker_ran}
use Rattle.flow_collect.proofs.worker.rounds.run_worker.Goals as goal

pub loop-init : goal.loop-init
loop-init g c = (refl, refl, stands_first _ _ c.requires.0 c.requires.1)

pub loop-preserved : goal.loop-preserved
loop-preserved g c =
    (c.go_round-round.ensures.keys ∙ c.loop.invariant.0, c.go_round-round.ensures.adds.0 ∙ c.loop.invariant.1, stands_on _ _ _ _ c.loop.invariant.2 c.go_round-round.ensures)

pub returns-then-all_ended : goal.returns-then-all_ended
returns-then-all_ended g c =
    worker_ran _ _ (c.go_round-round.ensures.keys ∙ c.loop.invariant.0) (c.go_round-round.ensures.adds.0 ∙ c.loop.invariant.1)
    (subst (All IsEnded) c.deref-in-loop.ensures.value (c.all_ended.ensures c.if-all_ended.true))
    (stands_on _ _ _ _ c.loop.invariant.2 c.go_round-round.ensures)

use Rattle.std.proofs.Common.{[], ◌∷◌, ◌∙◌, ap, length, length-append, arith}
use Rattle.flow_collect.proofs.Deals.{shares_more}
use Rattle.flow_collect.proofs.dealing.empty_shares.Goals as goal

pub loop-worker-preserved : goal.loop-worker-preserved
loop-worker-preserved c =
    let inv = c.loop-worker.invariant in (
      shares_more _ _ _ _ inv.0 c.in_ok-share.ensures c.in_ok-push_back.ensures.items,
      omega (arith, ap length c.in_ok-push_back.ensures.items ∙ length-append c.loop-worker.shares.items (c.in_ok-share.share ∷ []), inv.1),
    )

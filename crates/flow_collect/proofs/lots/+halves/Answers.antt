use Rattle.std.proofs.Common.{◌∙◌, sym}
use Rattle.std.proofs.lemmas.Result.{IfOk-at_ok}
use Rattle.flow_collect.specs.Serials.{LotRan}
use Rattle.flow_collect.proofs.LotLists.{lots_merged}
use Rattle.flow_collect.proofs.lots.+halves.Goals as goal

pub merge_lots-requires : goal.merge_lots-requires
merge_lots-requires g t c =
    let first = IfOk-at_ok (LotRan g.S.Source.seen _ c.args.plan.now) c.in_ok-all.was c.join-first.ensures.first in
    let second = IfOk-at_ok (LotRan g.S.Source.seen _ c.args.plan.now) c.in_ok-second.was c.join-first.ensures.second in
    second.plan_is ∙ sym first.plan_is

pub returns : goal.returns
returns g t c =
    let cut = c.in_ok-high.ensures in
    lots_merged g.S.Source.seen c.args.plan.now _ _ _ _ _ _ _ cut.items cut.tail
    (IfOk-at_ok (LotRan g.S.Source.seen _ c.args.plan.now) c.in_ok-all.was c.join-first.ensures.first)
    (IfOk-at_ok (LotRan g.S.Source.seen _ c.args.plan.now) c.in_ok-second.was c.join-first.ensures.second)
    c.in_ok-merge_lots.ensures

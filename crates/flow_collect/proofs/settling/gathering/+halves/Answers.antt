use Rattle.std.proofs.Common.{sym, ◌∙◌, subst}
use Rattle.std.specs.Prelude.{All}
use Rattle.std.proofs.lemmas.List.Elements.{All-take, All-drop}
use Rattle.std.proofs.lemmas.Result.{IfOk-at_ok}
use Rattle.flow_collect.specs.Finished.{HasTaken, IsMerged}
use Rattle.flow_collect.proofs.SettleLists.{merged_halves}
use Rattle.flow_collect.proofs.settling.gathering.+halves.Goals as goal

pub merge_one-requires : goal.merge_one-requires
merge_one-requires g t c =
    let cut = c.in_ok-high.ensures in
    let first = IfOk-at_ok (IsMerged _) c.in_ok-all.was c.join-first.ensures.first in
    let second = IfOk-at_ok (IsMerged _) c.in_ok-second.was c.join-first.ensures.second in
    let (plan, taken) = c.requires in
    let P = HasTaken plan in
    second.plan_is plan (subst (All P) (sym cut.tail) (All-drop P _ _ taken))
    ∙ sym (first.plan_is plan (subst (All P) (sym cut.items) (All-take P _ _ taken)))

pub returns : goal.returns
returns g t c =
    let cut = c.in_ok-high.ensures in
    let one = c.in_ok-merge_one.ensures in
    merged_halves _ _ _ _ _ _ _ cut.items cut.tail
    (IfOk-at_ok (IsMerged _) c.in_ok-all.was c.join-first.ensures.first)
    (IfOk-at_ok (IsMerged _) c.in_ok-second.was c.join-first.ensures.second)
    one.ends one.plan one.merges

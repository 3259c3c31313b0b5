use Rattle.std.proofs.Common.{◌≡◌, List, length, ◌∷◌, ◌++◌, [], refl, sym, ◌∙◌, subst, arith}
use Rattle.flow_collect.specs.Dealt.{IsDealt}
use Rattle.flow_collect.specs.declared.session_context.InContext.{InContext}
use Rattle.flow_collect.proofs.Deals.{deal_on, first_dealt, as_many}
use Rattle.flow_collect.proofs.ZipLists.{split_on, all_used}
use Rattle.flow_collect.proofs.dealing.deal.Goals as goal

pub loop-source-init : goal.loop-source-init
loop-source-init g c = ([], refl, first_dealt _ _ _ _ c.new-starts.ensures.items c.in_ok-shares.ensures.new, c.in_ok-shares.ensures.count)

pub loop-source-preserved : goal.loop-source-preserved
loop-source-preserved g c =
    let inv = c.loop-source.invariant in (
      inv.0 ++ c.in-Some.source ∷ [],
      split_on _ inv.0 _ _ _ inv.1 c.in-Some.ensures.items,
      deal_on _ _ inv.0 c.in-Some.source c.loop-source.starts c.loop-source.shares c.deal_one.new.starts c.deal_one.new.shares inv.2 c.in_ok-deal_one.ensures,
      as_many _ _ _ _ _ _ c.in_ok-deal_one.ensures ∙ inv.3,
    )

pub returns-clause-dealt : goal.returns-clause-dealt
returns-clause-dealt g c =
    let inv = c.loop-source.invariant in
    let none : length c.loop-source.sources.items ≡ 0 = omega (arith, c.loop-source.sources.ok.0, c.in_default.ensures.cases) in
    let used : c.args.sources.items ≡ inv.0 = sym c.from_vec-sources.ensures.items ∙ all_used _ inv.0 _ inv.1 none in
    subst (λ (ss : List (InContext g.row.S.Denot)). IsDealt c.args.plan.now c.args.pool ss c.loop-source.starts.items c.loop-source.shares.items) (sym used) inv.2

pub returns-clause-workers : goal.returns-clause-workers
returns-clause-workers g c = c.loop-source.invariant.3

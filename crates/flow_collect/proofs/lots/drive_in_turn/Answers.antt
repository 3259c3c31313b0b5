use Rattle.std.proofs.Common.{◌≡◌, List, length, ◌∷◌, ◌++◌, [], refl, sym, ◌∙◌, subst, arith}
use Rattle.flow_collect.specs.InFull.{IsGivenInContext}
use Rattle.flow_collect.specs.Places.{Each4}
use Rattle.flow_collect.specs.declared.session_context.InContext.{InContext}
use Rattle.flow_collect.proofs.Serials.{ran_none, ran_more, ran_stands}
use Rattle.flow_collect.proofs.ZipLists.{split_on, all_used}
use Rattle.flow_collect.proofs.lots.drive_in_turn.Goals as goal

pub loop-next-init : goal.loop-next-init
loop-next-init g c = ([], refl, rw (c.in_ok-with_capacity.ensures.items, c.in_ok-with_capacity-2.ensures.items) (ran_none g.S.Source.seen c.in-Ok.partial))

pub loop-next-preserved : goal.loop-next-preserved
loop-next-preserved g c =
    let inv = c.loop-next.invariant in (
      inv.0 ++ c.in-Some.next ∷ [],
      split_on _ inv.0 _ _ _ inv.1 c.in-Some.ensures.items,
      ran_more g.S.Source.seen inv.0 _ c.loop-next.lot _ c.in-Some.next inv.2 c.in_ok-lot.ensures,
    )

pub returns : goal.returns
returns g c =
    let inv = c.loop-next.invariant in
    let none : length c.loop-next.waiting.items ≡ 0 = omega (arith, c.loop-next.waiting.ok.0, c.in_default-pop_front.ensures.cases) in
    let used : c.args.sources.items ≡ inv.0 = sym c.from_vec-waiting.ensures.items ∙ all_used _ inv.0 _ inv.1 none in
    let (plan, stands) = ran_stands g.S.Source.seen c.args.plan.now _ _ _ _ _ c.in-Ok.ensures.empty c.in-Ok.ensures.plan inv.2 in
    record {
      records = inv.2.records;
      given = subst (λ (l : List (InContext g.row.S.Denot)). Each4 (IsGivenInContext g.S.Source.seen) l c.loop-next.lot.sources.items c.loop-next.lot.sessions.items inv.2.records) (sym used) inv.2.given;
      plan_is = plan;
      stands = stands;
    }

use Rattle.std.proofs.Common.{◌≡◌, length, arith, ◌∷◌, ◌++◌, [], refl, sym, ap, ◌∙◌, subst, append-nil}
use Rattle.std.specs.Prelude.{All}
use Rattle.std.proofs.lemmas.List.{flat_map_more}
use Rattle.std.proofs.lemmas.List.Elements.{All-tail, All-head}
use Rattle.flow_table.specs.Partials.{plan_of}
use Rattle.flow_table.specs.Plans.{PlanValue}
use Rattle.flow_collect.specs.Finished.{HasTaken, link_ends_of}
use Rattle.flow_collect.specs.declared.worker.WorkerShare.{WorkerShare}
use Rattle.flow_collect.proofs.ZipLists.{all_used, split_on}
use Rattle.flow_collect.proofs.SettleLists.{stands_joined}
use Rattle.flow_collect.proofs.settling.gathering.merge_in_turn.Goals as goal

pub loop-other-init : goal.loop-other-init
loop-other-init c =
    let P = HasTaken c.requires.0 in
    let taken = subst (All P) c.in-Some.ensures.items c.requires.1 in
    let first = All-head P _ _ taken in (
      c.in-Some.first ∷ [],
      c.in-Some.ensures.items,
      sym (append-nil c.in-Some.first.link_ends.items),
      subst (λ (plan : PlanValue). All (HasTaken plan) c.pop_front.new.self.items) (sym first.plan_is) (All-tail P _ _ taken),
      refl,
      first.table,
    )

pub merge_one-requires : goal.merge_one-requires
merge_one-requires c =
    let P = HasTaken (plan_of c.loop-other.all.partial) in
    let other = All-head P _ _ (subst (All P) c.in-Some-pop_front.ensures.items c.loop-other.invariant.3) in
    other.plan_is

pub loop-other-preserved : goal.loop-other-preserved
loop-other-preserved c =
    let inv = c.loop-other.invariant in
    let P = HasTaken (plan_of c.loop-other.all.partial) in
    let taken = subst (All P) c.in-Some-pop_front.ensures.items inv.3 in
    let other = All-head P _ _ taken in
    let one = c.in_ok-merge_one.ensures in (
      inv.0 ++ c.in-Some-pop_front.other ∷ [],
      split_on _ inv.0 _ _ _ inv.1 c.in-Some-pop_front.ensures.items,
      one.ends ∙ (ap (λ x. x ++ c.in-Some-pop_front.other.link_ends.items) inv.2 ∙ flat_map_more (λ (w : WorkerShare). w.link_ends.items) [] inv.0 c.in-Some-pop_front.other),
      subst (λ (plan : PlanValue). All (HasTaken plan) c.pop_front-in-loop-other.new.self.items) (sym one.plan) (All-tail P _ _ taken),
      one.plan ∙ inv.4,
      rw one.ends (stands_joined _ _ _ _ _ one.merges inv.5 other.table),
    )

pub returns : goal.returns
returns c =
    let inv = c.loop-other.invariant in
    let ended : length c.loop-other.worked.items ≡ 0 = omega (arith, c.in_default-pop_front.ensures.cases.0, c.loop-other.worked.ok.0) in
    record {
      link_ends_are = inv.2 ∙ ap link_ends_of (sym (all_used _ inv.0 _ inv.1 ended));
      table = inv.5;
      plan_is = λ plan taken. inv.4 ∙ (All-head (HasTaken plan) _ _ (subst (All (HasTaken plan)) c.in-Some.ensures.items taken)).plan_is;
    }

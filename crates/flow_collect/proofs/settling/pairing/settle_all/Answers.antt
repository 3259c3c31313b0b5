use Rattle.std.proofs.Common.{◌≡◌, ◌∷◌, ◌++◌, [], arith, subst, map, length-append}
use Rattle.std.specs.Prelude.{All}
use Rattle.std.specs.VecDeque.{deque_len}
use Rattle.std.proofs.lemmas.Bool.Decides.{nat_tests}
use Rattle.std.proofs.lemmas.List.Elements.{All-rest, All-head}
use Rattle.flow_collect.specs.Dealt.{IsPaired}
use Rattle.flow_collect.specs.Finished.{ended_link}
use Rattle.flow_collect.proofs.ZipLists.{split_on, all_used}
use Rattle.flow_collect.proofs.SettleLists.{paired_here, settled_on, settled_end}
use Rattle.flow_collect.proofs.settling.pairing.settle_all.Goals as goal

pub settle_one-requires : goal.settle_one-requires
settle_one-requires g c =
    let inv = c.loop-number.invariant in
    let P = IsPaired (map ended_link c.args.sessions.items) in
    paired_here _ inv.0 _ _ c.in-Some.session _ c.in-Some-pop_front.link_end inv.2 c.in-Some.ensures.items inv.4 c.if-link_end-number.false (All-head P _ _ (subst (All P) c.in-Some-pop_front.ensures.items inv.5))

pub loop-number-preserved : goal.loop-number-preserved
loop-number-preserved g c =
    let inv = c.loop-number.invariant in
    let P = IsPaired (map ended_link c.args.sessions.items) in (
      inv.0 ++ c.in-Some.session ∷ [],
      inv.1 ++ c.in-Some-pop_front.link_end ∷ [],
      split_on _ inv.0 _ _ _ inv.2 c.in-Some.ensures.items,
      split_on _ inv.1 _ _ _ inv.3 c.in-Some-pop_front.ensures.items,
      omega (arith, length-append inv.0 (c.in-Some.session ∷ []), inv.4),
      All-rest P _ _ _ c.in-Some-pop_front.ensures.items inv.5,
      settled_on inv.0 inv.1 _ _ _ _ inv.6 c.in_ok-settle_one.ensures,
    )

pub returns : goal.returns
returns g c =
    let inv = c.loop-number.invariant in
    let n : deque_len c.loop-number.sessions ≡ 0 = grind (arith, nat_tests) in
    let m : deque_len c.loop-number.link_ends ≡ 0 = grind (arith, nat_tests) in
    settled_end inv.0 inv.1 _ _ _ (all_used _ inv.0 _ inv.2 (omega (arith, c.loop-number.sessions.ok.0))) (all_used _ inv.1 _ inv.3 (omega (arith, c.loop-number.link_ends.ok.0))) inv.6

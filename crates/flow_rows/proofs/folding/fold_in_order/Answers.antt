use Rattle.std.proofs.Common.{◌∙◌, ◌<◌, arith, length, rules, sym, inl, inr}
use Rattle.flow_rows.specs.Folded.{folded}
use Rattle.flow_rows.specs.Packed.{in_order}
use Rattle.flow_rows.proofs.Digits.{all_small, in_order_long, next_in_order}
use Rattle.flow_rows.proofs.FoldSteps.{fold_begins, fold_equal, fold_other}
use Rattle.flow_rows.proofs.Within.{fold_small, fold_starts, small_equal, small_other}
use Rattle.flow_rows.proofs.folding.fold_in_order.Goals.{in-Equal, in-Less+in_ok-push-in-Less}
use Rattle.flow_rows.proofs.folding.fold_in_order.Goals as goal

pub loop-i-preserved : goal.loop-i-preserved
loop-i-preserved g c =
    let xs = in_order c.args.buffer.now c.args.order.now in
    let last = c.loop-i.last in
    let next = c.row_at-row.result in
    let l : c.loop-i.i < length xs = omega (arith, in_order_long c.args.buffer.now c.args.order.now) in
    let n = next_in_order c.args.buffer.now c.args.order.now c.loop-i.i next c.loop-i-test.true c.row_at-row.ensures in
    elim c.match-order.branch [
      | in-Equal w ↦ record {
        rest = fold_equal c.loop-i.out.items c.match-order.out.items xs (folded xs) last c.match-order.last next c.loop-i.i l n (sym c.order.ensures ∙ w.in-Equal.is) (w.last-is ∙ w.add.ensures) (cc) c.loop-i.invariant.rest;
        small = λ k. small_equal xs last c.match-order.last next c.loop-i.i k l n (sym c.order.ensures ∙ w.in-Equal.is) (w.last-is ∙ w.add.ensures) (c.loop-i.invariant.small k);
      }
      | in-Less+in_ok-push-in-Less w ↦ record {
        rest = fold_other c.loop-i.out.items c.match-order.out.items xs (folded xs) last c.match-order.last next c.loop-i.i l n (elim w.in-Less.is [ inl h ↦ inl (sym c.order.ensures ∙ h) | inr h ↦ inr (sym c.order.ensures ∙ h) ]) w.last-is (let e = w.in_ok-push-in-Less.ensures.items in cc) c.loop-i.invariant.rest;
        small = λ k. small_other xs c.match-order.last next c.loop-i.i k l n w.last-is;
      }
    ]

pub loop-i-init : goal.loop-i-init
loop-i-init g c =
    let xs = in_order c.args.buffer.now c.args.order.now in
    let l : 0 < length c.args.order.now = search rules in
    let first = next_in_order c.args.buffer.now c.args.order.now 0 c.row_at-last.result l c.row_at-last.ensures in
    record {
      rest = fold_begins c.in_ok-out.out.items xs c.row_at-last.result c.in_ok-out.ensures.items (omega (arith, in_order_long c.args.buffer.now c.args.order.now)) first;
      small = λ k. fold_starts xs c.row_at-last.result k (omega (arith, in_order_long c.args.buffer.now c.args.order.now)) first;
    }

pub row_at-row-requires : goal.row_at-row-requires
row_at-row-requires g c = (search rules, c.requires.order.places c.loop-i.i 0 c.loop-i-test.true)

pub add-requires : goal.add-requires
add-requires g c =
    let xs = in_order c.args.buffer.now c.args.order.now in
    let next = c.row_at-row.result in
    let n = next_in_order c.args.buffer.now c.args.order.now c.loop-i.i next c.loop-i-test.true c.row_at-row.ensures in
    (search rules, λ i. fold_small xs c.loop-i.last next c.loop-i.i i (omega (arith, in_order_long c.args.buffer.now c.args.order.now)) n (sym c.order.ensures ∙ c.in-Equal.is) (all_small c.args.buffer.now c.args.order.now c.requires.order c.requires.small) (c.loop-i.invariant.small i))

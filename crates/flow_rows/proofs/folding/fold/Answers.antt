use Rattle.std.proofs.Common.{◌∙◌, arith, rules, sym, inl, inr}
use Rattle.flow_rows.specs.Folded.{folded}
use Rattle.flow_rows.proofs.FoldSteps.{fold_equal, fold_other}
use Rattle.flow_rows.proofs.Within.{fold_small, fold_starts, small_equal, small_other}
use Rattle.flow_rows.proofs.folding.fold.Goals.{in-Equal, in-Less+in_ok-push-in-Less}
use Rattle.flow_rows.proofs.folding.fold.Goals as goal

pub loop-i-preserved : goal.loop-i-preserved
loop-i-preserved g c =
    let xs = c.args.buffer.now in
    let last = c.loop-i.last in
    let next = c.index-buffer-i.result in
    let n = c.index-buffer-i.is in
    elim c.match-order.branch [
      | in-Equal w ↦ record {
        rest = fold_equal c.loop-i.out.items c.match-order.out.items xs (folded xs) last c.match-order.last next c.loop-i.i (omega arith) n (sym c.order.ensures ∙ w.in-Equal.is) (w.last-is ∙ w.add.ensures) (cc) c.loop-i.invariant.rest;
        small = λ k. small_equal xs last c.match-order.last next c.loop-i.i k (omega arith) n (sym c.order.ensures ∙ w.in-Equal.is) (w.last-is ∙ w.add.ensures) (c.loop-i.invariant.small k);
      }
      | in-Less+in_ok-push-in-Less w ↦ record {
        rest = fold_other c.loop-i.out.items c.match-order.out.items xs (folded xs) last c.match-order.last next c.loop-i.i (omega arith) n (elim w.in-Less.is [ inl h ↦ inl (sym c.order.ensures ∙ h) | inr h ↦ inr (sym c.order.ensures ∙ h) ]) w.last-is (let e = w.in_ok-push-in-Less.ensures.items in cc) c.loop-i.invariant.rest;
        small = λ k. small_other xs c.match-order.last next c.loop-i.i k (omega arith) n w.last-is;
      }
    ]

pub loop-i-init : goal.loop-i-init
loop-i-init g c = record {
  rest = search rules;
  small = λ k. fold_starts c.args.buffer.now c.index-buffer-0.result k (search rules) c.index-buffer-0.is;
}

pub add-requires : goal.add-requires
add-requires g c =
    (search rules, λ i. fold_small c.args.buffer.now c.loop-i.last c.index-buffer-i.result c.loop-i.i i (omega arith) c.index-buffer-i.is (sym c.order.ensures ∙ c.in-Equal.is) c.requires (c.loop-i.invariant.small i))

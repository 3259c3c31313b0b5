use Rattle.std.proofs.Common.{ℕ, ◌<◌, get_or, ◌∙◌, ap, arith, rules, sym, subst, List}
use Rattle.std.proofs.lemmas.Result.{IfOk-weaker}
use Rattle.std.proofs.lemmas.List.Sorted.{All-permutation, sum_by-IsPermutation}
use Rattle.flow_rows.specs.Rows.{Row, IsRun, part, total_at}
use Rattle.flow_rows.proofs.Additive.{folded-sum, part_adds}
use Rattle.flow_rows.proofs.Counting.{folded_run}
use Rattle.flow_rows.proofs.Digits.{run_in_order, total_in_order}
use Rattle.flow_rows.specs.Packed.{IsOrder}
use Rattle.flow_rows.proofs.folding.into_run.Goals as goal

pub returns-clause-total : goal.returns-clause-total
returns-clause-total g c =
    IfOk-weaker c.fold.result _ _ (λ out same q i. ap (λ (xs : List Row). total_at xs q i) same ∙ folded-sum (part q i) (part_adds q i) c.sort.new.buffer ∙ sum_by-IsPermutation (part q i) c.args.buffer.now c.sort.new.buffer c.sort.ensures.permutation) c.fold.ensures

pub returns-clause-run : goal.returns-clause-run
returns-clause-run g c =
    IfOk-weaker c.fold.result _ _ (λ out same. subst IsRun (sym same) (folded_run c.sort.new.buffer c.sort.ensures.rises (All-permutation (λ (x : Row). 0 < get_or x.numbers 0 0) c.args.buffer.now c.sort.new.buffer c.sort.ensures.permutation c.requires.counted))) c.fold.ensures

pub returns-clause-kept : goal.returns-clause-kept
returns-clause-kept g c = λ q i. sum_by-IsPermutation (part q i) c.args.buffer.now c.sort.new.buffer c.sort.ensures.permutation

pub returns-clause-kept_counted : goal.returns-clause-kept_counted
returns-clause-kept_counted g c = All-permutation (λ (x : Row). 0 < get_or x.numbers 0 0) c.args.buffer.now c.sort.new.buffer c.sort.ensures.permutation c.requires.counted

pub fold-requires : goal.fold-requires
fold-requires g c = (search rules, λ q i. omega (arith, sum_by-IsPermutation (part q i) c.args.buffer.now c.sort.new.buffer c.sort.ensures.permutation, c.requires.small q i))

pub fold_in_order-requires : goal.fold_in_order-requires
fold_in_order-requires g c = (search rules, (subst (λ (xs : List ℕ). IsOrder c.args.buffer.now xs) (sym c.deref.ensures.value) c.in-Some.ensures, c.requires.small))

pub returns-in-Some-clause-total : goal.returns-in-Some-clause-total
returns-in-Some-clause-total g c =
    let o = subst (λ (xs : List ℕ). IsOrder c.args.buffer.now xs) (sym c.deref.ensures.value) c.in-Some.ensures in
    IfOk-weaker c.fold_in_order.result _ _ (λ out same q i. total_in_order c.args.buffer.now c.deref.result.now out.items o same q i) c.fold_in_order.ensures

pub returns-in-Some-clause-run : goal.returns-in-Some-clause-run
returns-in-Some-clause-run g c =
    let o = subst (λ (xs : List ℕ). IsOrder c.args.buffer.now xs) (sym c.deref.ensures.value) c.in-Some.ensures in
    IfOk-weaker c.fold_in_order.result _ _ (λ out same. run_in_order c.args.buffer.now c.deref.result.now out.items o c.requires.counted same) c.fold_in_order.ensures

use Rattle.std.proofs.Common.{ℕ}
use Rattle.std.proofs.lemmas.List.Sorted.{IsNonDecreasingBy-from_sort}
use Rattle.flow_rows.proofs.Digits.{sorted_order}
use Rattle.flow_rows.proofs.packing.sorted_numbers.Goals as goal

pub returns : goal.returns
returns g c =
    let new = c.sort_unstable.new.self.items in
    sorted_order c.args.least.now c.args.most.now c.args.buffer.now c.in-Some.order.items new c.in-Some.ensures c.sort_unstable.ensures.permutation (IsNonDecreasingBy-from_sort (λ (x : ℕ). x) new c.sort_unstable.ensures.sorted)

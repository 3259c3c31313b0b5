use Rattle.std.proofs.Common.{◌≡◌, List, map, ap, rules, subst}
use Rattle.std.specs.Borrow.{Bor}
use Rattle.std.specs.List.Sorted.{IsPermutation}
use Rattle.std.specs.Ordering.{is_lt}
use Rattle.std.proofs.lemmas.Fn.{always_returns_same}
use Rattle.std.proofs.lemmas.List.MinMax.{ranks_by}
use Rattle.std.proofs.lemmas.List.Sorted.{IsPermutation-map}
use Rattle.table_receipts.specs.Values.{input_value}
use Rattle.table_receipts.specs.declared.receipt.InputReceipt.{InputReceipt}
use Rattle.receipt_differences.specs.declared.likeness.Likeness.TheVariants.{Report}
use Rattle.receipt_differences.specs.Orders.{likeness_cmp}
use Rattle.receipt_differences.proofs.Alike.{likeness_total}
use Rattle.receipt_differences.proofs.order.in_order.Goals as goal

pub returns : goal.returns
returns c =
    let now = λ (i : Bor InputReceipt). i.now in
    let value = λ (i : Bor InputReceipt). input_value i.now in
    let old = c.in_ok-ordered.ordered.items in
    let new = c.sort_unstable_by.new.self.items in
    record {
      same = subst (λ (l : List InputReceipt). IsPermutation l (map now new)) c.in_ok-ordered.ensures (IsPermutation-map now old new c.sort_unstable_by.ensures.permutation);
      ascends = c.sort_unstable_by.ensures.sorted (λ i j. is_lt (likeness_cmp Report (value i) (value j))) (ranks_by (likeness_total Report) value)
          (always_returns_same _ (λ a r. is_lt r ≡ is_lt (likeness_cmp Report (value a.0.now) (value a.1.0.now))) _
          (λ a r q k. let same : r ≡ likeness_cmp Report (value a.0.now) (value a.1.0.now) = search rules in (ap is_lt same, search rules)));
    }

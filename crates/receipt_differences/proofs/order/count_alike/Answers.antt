use Rattle.std.proofs.Common.{◌-◌, ◌∙◌, length, drop, take, rules, sym}
use Rattle.std.specs.Ordering.{is_le, is_lt}
use Rattle.std.proofs.lemmas.List.{take_rest}
use Rattle.std.proofs.lemmas.List.Sorted.{IsPartitionPoint-from_clause}
use Rattle.table_receipts.specs.Values.{input_value}
use Rattle.receipt_differences.specs.Orders.{likeness_cmp}
use Rattle.receipt_differences.proofs.Alike.{parted_less, parted_rest, parted_upto}
use Rattle.receipt_differences.proofs.Counts.{count_between}
use Rattle.receipt_differences.proofs.Ordered.{count_equal}
use Rattle.receipt_differences.proofs.order.count_alike.Goals as goal

pub returns : goal.returns
returns c =
    let xs = c.args.ordered.now in
    let to = c.args.to in
    let v = input_value c.args.input.now in
    let start = c.partition_point-start.result in
    let end = c.partition_point.result in
    let rest = take (length xs - start) (drop start xs) in
    let same = take_rest xs start in
    let first = IsPartitionPoint-from_clause (λ i. is_lt (likeness_cmp to (input_value i.now) v)) xs start c.partition_point-start.ensures.partitioned
    (parted_less to v xs c.requires) (λ a r q k. search rules) in
    let last = IsPartitionPoint-from_clause (λ i. is_le (likeness_cmp to (input_value i.now) v)) rest end c.partition_point.ensures.partitioned
    (parted_rest (λ i. is_le (likeness_cmp to (input_value i.now) v)) xs rest start same (parted_upto to v xs c.requires)) (λ a r q k. search rules) in
    sym (count_equal to v xs ∙ count_between (λ i. likeness_cmp to (input_value i.now) v) xs rest start end c.partition_point-start.ensures.bound same c.partition_point.ensures.bound first last)

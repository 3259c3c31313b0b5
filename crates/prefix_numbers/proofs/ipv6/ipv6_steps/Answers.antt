use Rattle.std.proofs.Common.{ℕ, rules, tests}
use Rattle.std.specs.Prelude.{nat_le}
use Rattle.std.specs.List.{slice_range}
use Rattle.std.proofs.lemmas.List.Sorted.{IsPartitionPoint-from_clause, IsPartitionedBy-leb}
use Rattle.prefix_numbers.proofs.Ascending.{point_between, range_ascends}
use Rattle.prefix_numbers.proofs.ipv6.ipv6_steps.Goals as goal

pub returns : goal.returns
returns c =
    let starts = c.args.starts.now in
    let first = c.next_place-first.result in
    let end = c.end_place-end.result in
    let parted = IsPartitionedBy-leb (λ (x : ℕ). x) (slice_range starts first end) c.args.address (range_ascends starts first end c.requires) in
    let point = IsPartitionPoint-from_clause (λ start. nat_le start c.args.address) _ _ c.partition_point.ensures.partitioned parted (λ a r q k. search (rules, tests)) in
    point_between (λ start. nat_le start c.args.address) starts first end c.partition_point.result c.next_place-first.ensures c.end_place-end.ensures.above c.end_place-end.ensures.within c.partition_point.ensures.bound point

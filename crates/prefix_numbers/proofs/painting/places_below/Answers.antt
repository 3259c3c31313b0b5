use Rattle.std.proofs.Common.{ℕ, rules, tests}
use Rattle.std.specs.Prelude.{nat_lt}
use Rattle.std.proofs.lemmas.List.Sorted.{IsPartitionPoint-from_clause, IsPartitionedBy-ltb}
use Rattle.prefix_numbers.proofs.Ascending.{point_is}
use Rattle.prefix_numbers.proofs.painting.places_below.Goals as goal

pub returns : goal.returns
returns c =
    let point = IsPartitionPoint-from_clause (λ start. nat_lt start c.args.address) _ _ c.partition_point.ensures.partitioned (IsPartitionedBy-ltb (λ (x : ℕ). x) c.args.starts.now c.args.address c.requires) (λ a r q k. search (rules, tests)) in
    point_is (λ start. nat_lt start c.args.address) c.args.starts.now c.partition_point.result c.partition_point.ensures.bound point

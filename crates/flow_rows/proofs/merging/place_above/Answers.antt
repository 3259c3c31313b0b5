use Rattle.std.proofs.Common.{arith}
use Rattle.std.proofs.lemmas.Cmp.{nat_list_cmp_total}
use Rattle.std.proofs.lemmas.List.Sorted.{searchable_from_sorted}
use Rattle.flow_rows.specs.Rows.{Row}
use Rattle.flow_rows.proofs.Beyond.{joined_after, joined_at, last_of}
use Rattle.flow_rows.proofs.Counting.{run_ascends}
use Rattle.flow_rows.proofs.Found.{sorted_from_ascends}
use Rattle.flow_rows.proofs.merging.place_above.Goals as goal

pub returns-in-Ok-clause-run : goal.returns-in-Ok-clause-run
returns-in-Ok-clause-run g c =
    let x = c.index-rows-older.result in
    joined_after c.args.rows.now c.args.newer.now c.args.older c.in-Ok.place x x (last_of c.args.rows.now c.args.older x (omega arith) c.requires.within c.index-rows-older.is) c.requires.older c.requires.newer (run_ascends c.args.newer.now c.requires.newer) c.in-Ok.ensures.within (c.in-Ok.ensures.place x)

pub returns-in-Err-clause-run : goal.returns-in-Err-clause-run
returns-in-Err-clause-run g c =
    let x = c.index-rows-older.result in
    let split = c.in-Err.ensures.place (searchable_from_sorted nat_list_cmp_total (λ (y : Row). y.key) c.args.newer.now x.key (sorted_from_ascends c.args.newer.now (run_ascends c.args.newer.now c.requires.newer))) in
    joined_at c.args.rows.now c.args.newer.now c.args.older c.in-Err.place x (last_of c.args.rows.now c.args.older x (omega arith) c.requires.within c.index-rows-older.is) c.requires.older c.requires.newer split.1

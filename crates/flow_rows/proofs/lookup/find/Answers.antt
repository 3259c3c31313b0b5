use Rattle.std.proofs.lemmas.Cmp.{nat_list_cmp_total}
use Rattle.std.proofs.lemmas.List.Sorted.{searchable_from_sorted}
use Rattle.flow_rows.specs.Rows.{Row}
use Rattle.flow_rows.proofs.Counting.{run_ascends}
use Rattle.flow_rows.proofs.Found.{found_total, none_total, sorted_from_ascends}
use Rattle.flow_rows.proofs.lookup.find.Goals as goal

pub returns-in-Ok : goal.returns-in-Ok
returns-in-Ok g c =
    found_total c.args.run.now c.in-Ok.place c.index-run-place.result c.args.wanted.now.key (run_ascends c.args.run.now c.requires) c.in-Ok.ensures.within c.index-run-place.is (c.in-Ok.ensures.place c.index-run-place.result)

pub returns-in-Err : goal.returns-in-Err
returns-in-Err g c =
    let split = c.in-Err.ensures.place (searchable_from_sorted nat_list_cmp_total (λ (y : Row). y.key) c.args.run.now c.args.wanted.now.key (sorted_from_ascends c.args.run.now (run_ascends c.args.run.now c.requires))) in
    none_total c.args.run.now c.args.wanted.now.key c.in-Err.field-0 split.0 split.1

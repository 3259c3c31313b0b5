use Rattle.std.proofs.Common.{arith, rules}
use Rattle.flow_rows.proofs.Counting.{no_run}
use Rattle.flow_rows.proofs.Totals.{popped_front, popped_last, popped_total}
use Rattle.flow_rows.proofs.merging.merge_all.Goals as goal

pub merge_onto-requires : goal.merge_onto-requires
merge_onto-requires g c =
    let old = c.args.runs.items in
    let new = c.pop.new.self.items in
    let r = c.in-Some.run' in
    let e = c.in-Some.ensures.items in
    (search rules, (λ q i. omega (arith, popped_total old new r q i e, c.requires.small q i), (popped_front old new r e c.requires.runs, popped_last old new r e c.requires.runs)))

pub returns-in-None-clause-run : goal.returns-in-None-clause-run
returns-in-None-clause-run g c = no_run c.new.result.items c.new.ensures.items

use Rattle.std.proofs.Common.{◌^◌, ◌<◌, length, arith}
use Rattle.flow_table.specs.declared.flat_table.FlatTable.TheInside.{Inside}
use Rattle.flow_table.proofs.FlatTables.{lines_shown}
use Rattle.flow_table.proofs.flat_table.FlatTable.of.Goals as goal

pub returns-clause-rows : goal.returns-clause-rows
returns-clause-rows c =
    let t : Inside = record {
      alloc = c.args.alloc;
      kinds = c.into_kinds.result;
      counters = length c.counters-counters.result.now;
      run = c.in_ok-finish.field-0;
      tally = c.args.tally;
      missing = c.args.missing;
    } in
    let few : t.counters < 2 ^ 63 = omega (arith, c.counters-counters.ensures.few) in
    rw (← c.into_kinds.ensures, ← c.counters-counters.ensures.value) (lines_shown t few _ c.in_ok-finish.ensures.run c.in_ok-finish.ensures.total)

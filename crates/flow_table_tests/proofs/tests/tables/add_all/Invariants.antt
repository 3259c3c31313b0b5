use Rattle.std.proofs.Common.{◌≡◌}
use Rattle.flow_table.specs.RowTotals.{totals_plan}
use Rattle.flow_table_tests.proofs.tests.tables.add_all.Given as goal

abbrev pub invariant-loop-i : goal.invariant-loop-i
invariant-loop-i l = totals_plan l.totals ≡ totals_plan l.fn.totals

use Rattle.std.specs.Prelude.{All}
use Rattle.flow_table.specs.Fitting.{FitsPlan}
use Rattle.largest_sessions_tests.proofs.tests.tables_of.Given as goal

abbrev pub invariant-loop-flows : goal.invariant-loop-flows
invariant-loop-flows l = All (FitsPlan l.plan) l.tables.items

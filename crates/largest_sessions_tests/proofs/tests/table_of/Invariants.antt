use Rattle.std.proofs.Common.{◌≡◌, List}
use Rattle.ipfix_message.specs.declared.record.DataRecord.{DataRecord}
use Rattle.flow_table.specs.Partials.{StandsFor, plan_of}
use Rattle.largest_sessions_tests.proofs.tests.table_of.Given as goal

-- it stands for some records
abbrev pub invariant-loop-flow : goal.invariant-loop-flow
invariant-loop-flow l = (rs : List DataRecord) × StandsFor l.partial rs × (plan_of l.partial ≡ l.plan)

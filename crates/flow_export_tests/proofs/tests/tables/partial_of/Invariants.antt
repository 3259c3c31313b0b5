use Rattle.std.proofs.Common.{◌≡◌, take}
use Rattle.flow_table.specs.Partials.{StandsFor, plan_of}
use Rattle.flow_export_tests.proofs.tests.tables.partial_of.Given as goal

-- the plan stays, and the partial table stands for the records that were added
abbrev pub invariant-loop-record : goal.invariant-loop-record
invariant-loop-record l = (plan_of l.partial ≡ l.plan) × StandsFor l.partial (take l.record-index l.records)

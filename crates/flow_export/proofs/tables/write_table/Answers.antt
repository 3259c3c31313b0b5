use Rattle.flow_export.specs.AnyTables.{table_in}
use Rattle.flow_export.proofs.Exportable.{rows_exportable}
use Rattle.flow_export.proofs.tables.write_table.Goals as goal

pub write_lines-requires-clause-fit : goal.write_lines-requires-clause-fit
write_lines-requires-clause-fit g c = rows_exportable c.args.plan.now (table_in c.args.table.now) _ c.in_ok-rows.ensures c.requires

pub write_lines-requires-in-Json-clause-fit : goal.write_lines-requires-in-Json-clause-fit
write_lines-requires-in-Json-clause-fit g c = rows_exportable c.args.plan.now (table_in c.args.table.now) _ c.in_ok-rows.ensures c.requires

pub write_messages-requires-clause-fit : goal.write_messages-requires-clause-fit
write_messages-requires-clause-fit g c = rows_exportable c.args.plan.now (table_in c.args.table.now) _ c.in_ok-rows.ensures c.requires

use Rattle.command_tables.proofs.MergeRuns.{no_table_of_run, table_of_run}
use Rattle.command_tables.proofs.days.merging.merge_of.Goals as goal

pub returns-clause-merged : goal.returns-clause-merged
returns-clause-merged g c = table_of_run _ _ c.args.job.now c.args.parts _ c.run_merge.result c.run_merge.ensures c.merged_table.result c.merged_table.ensures.merged

pub returns-clause-err : goal.returns-clause-err
returns-clause-err g c = no_table_of_run _ _ c.args.job.now c.args.parts _ c.run_merge.result c.run_merge.ensures c.merged_table.result c.merged_table.ensures.err

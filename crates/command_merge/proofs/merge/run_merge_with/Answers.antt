use Rattle.std.proofs.Common.{rules}
use Rattle.command_merge.proofs.Ended.{exports_none, merges_all, merges_none}
use Rattle.command_merge.proofs.FilesTold.{merged_told, tells_not_merged}
use Rattle.output_tables.proofs.NotWritten.{not_written}
use Rattle.report_writing.proofs.LinesTold.{told_then}
use Rattle.command_merge.proofs.merge.run_merge_with.Goals as goal

pub returns-in-Err-clause-runs : goal.returns-in-Err-clause-runs
returns-in-Err-clause-runs g c =
    merges_none _ _ _ _ _ _ _ _ _ _ c.in-Err.not_merged (search rules) (search rules)
    (tells_not_merged _ _ c.args.job.now.verbosity _ _ _ _ _ c.in-Err.not_merged _ c.write_not_merged.result c.in-Err.ensures.stops c.write_not_merged.ensures.told c.write_not_merged.ensures.failed c.write_not_merged.ensures.kept (search rules))

pub returns-in-Err-export-clause-runs : goal.returns-in-Err-export-clause-runs
returns-in-Err-export-clause-runs g c =
    exports_none _ _ _ _ _ _ _ _ _ _ c.in-Ok.table (search rules) c.in-Ok.ensures.merged
    (c.in-Err-export.fault, not_written _ _ _ c.in-Err-export.fault c.in-Err-export.ensures.many (λ many. c.in-Err-export.ensures.untouched many), told_then _ _ _ _ _ c.write_export_fault.result _ _ c.in-Ok.ensures.told c.write_export_fault.ensures.told c.write_export_fault.ensures.failed c.write_export_fault.ensures.kept)

pub returns-clause-runs : goal.returns-clause-runs
returns-clause-runs g c =
    merges_all _ _ _ _ _ _ _ _ _ _ (search rules) (record {
      table = c.in-Ok.table;
      merged = c.in-Ok.ensures.merged;
      written = search rules;
      told = told_then _ _ _ _ _ c.write_merged.result _ _ c.in-Ok.ensures.told (merged_told c.write_merged.result _ _ (λ path. path.now) c.args.paths.now c.in-Ok.table _ _ (search rules) (search rules) c.write_merged.ensures.told) c.write_merged.ensures.failed c.write_merged.ensures.kept;
    })

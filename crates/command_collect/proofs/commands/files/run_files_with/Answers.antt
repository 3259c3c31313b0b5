use Rattle.std.proofs.Common.{refl, rules}
use Rattle.report_writing.specs.Told.{AreToldTo}
use Rattle.report_writing.proofs.LinesTold.{both_told}
use Rattle.command_collect.proofs.Collected.{collected, not_collected}
use Rattle.command_collect.proofs.LinesTold.{stops_then}
use Rattle.command_collect.proofs.commands.files.run_files_with.Goals as goal

pub returns-in-Ok-clause-collects : goal.returns-in-Ok-clause-collects
returns-in-Ok-clause-collects g c =
    collected g.S.Source.seen g.S.Source.failure g.W.Write.contents _ _ c.args.job.now _ _ _ _ _ _ (AreToldTo g.E.WriteLines.lines c.open_all.new.err c.run_with.new.err)
    c.into_sources-sources.result.items c.in-Ok.field-0.sources c.in-Ok.field-0.origins.items c.deref.result.now c.into_sources-sources.ensures.list c.in-Ok.ensures.opened c.into_sources-sources.ensures.unread c.in-Ok.ensures.named c.deref.ensures.value
    (λ lines told. both_told _ _ _ _ _ _ _ c.in-Ok.ensures.told told c.run_with.ensures.kept) c.run_with.ensures.runs

pub returns-in-Err-clause-collects : goal.returns-in-Err-clause-collects
returns-in-Err-clause-collects g c =
    not_collected _ _ _ _ refl (search rules) (record {
      name = c.in-Err.field-0.path.now;
      reason = c.in-Err.field-0.reason;
      refused = c.in-Err.ensures.reason;
      stops = stops_then _ _ _ _ _ _ _ _ _ _ c.write_not_had_because.result c.in-Err.ensures.stops c.write_not_had_because.ensures.told c.write_not_had_because.ensures.failed c.write_not_had_because.ensures.kept;
    })

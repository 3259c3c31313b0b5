use Rattle.std.proofs.Common.{refl, rules}
use Rattle.std.proofs.lemmas.Option.{IfSome_then}
use Rattle.report_writing.specs.Told.{AreToldTo}
use Rattle.report_writing.proofs.LinesTold.{both_told}
use Rattle.command_collect.proofs.Collected.{not_collected}
use Rattle.command_collect.proofs.LinesTold.{stops_then}
use Rattle.command_collect.proofs.ReceiptsCollected.{collected}
use Rattle.command_collect.proofs.Hindered.{hinders_same}
use Rattle.command_collect.proofs.receipts.files.run_files_receipted.Goals as goal

pub returns-in-Ok-clause-collects : goal.returns-in-Ok-clause-collects
returns-in-Ok-clause-collects g c =
    collected g.W.Write.contents g.Q.ReceiptPlace.holds c.args.to c.run_receipted.result g.S.Source.seen g.S.Source.failure c.args.job.now _ _ _ _ _
    (AreToldTo g.E.WriteLines.lines c.open_all.new.err c.run_receipted.new.err)
    c.into_sources-sources.result.items c.in-Ok.field-0.sources c.in-Ok.field-0.origins.items c.deref.result.now c.into_sources-sources.ensures.list c.in-Ok.ensures.opened c.into_sources-sources.ensures.unread c.in-Ok.ensures.named c.deref.ensures.value
    (λ lines told. both_told _ _ _ _ _ _ _ c.in-Ok.ensures.told told c.run_receipted.ensures.kept) c.run_receipted.ensures.runs

pub returns-in-Err-clause-collects : goal.returns-in-Err-clause-collects
returns-in-Err-clause-collects g c =
    not_collected _ _ _ _ refl refl (record {
      name = c.in-Err.field-0.path.now;
      reason = c.in-Err.field-0.reason;
      refused = c.in-Err.ensures.reason;
      stops = stops_then _ _ _ _ _ _ _ _ _ _ c.write_not_had_because.result c.in-Err.ensures.stops c.write_not_had_because.ensures.told c.write_not_had_because.ensures.failed c.write_not_had_because.ensures.kept;
    })

pub returns-in-Ok-clause-hindered : goal.returns-in-Ok-clause-hindered
returns-in-Ok-clause-hindered g c =
    IfSome_then c.run_receipted.result.hindrance
    (hinders_same g.S.Source.seen c.args.job.now c.into_sources-sources.result.items c.in-Ok.field-0.sources c.in-Ok.field-0.origins.items c.deref.result.now c.run_receipted.result.hindrance c.into_sources-sources.ensures.list c.deref.ensures.value c.run_receipted.ensures.hindered)
    (λ hindrance is. record {
      sources = c.in-Ok.field-0.sources;
      origins = c.in-Ok.field-0.origins.items;
      opened = c.in-Ok.ensures.opened;
      files = c.in-Ok.ensures.named;
      hinders = is;
    })

use Rattle.std.proofs.Common.{inl, inr, refl, sym, subst}
use Rattle.report_writing.specs.Told.{AreToldTo}
use Rattle.report_writing.specs.declared.origin.Origin.{Origin}
use Rattle.report_writing.proofs.LinesTold.{both_told}
use Rattle.command_collect.proofs.LinesTold.{stops_then}
use Rattle.command_verify.specs.Again.{there_value}
use Rattle.command_verify.proofs.Retold.{opened}
use Rattle.command_verify.proofs.comparing.open_files.Goals as goal

pub returns-in-Ok-clause-opens : goal.returns-in-Ok-clause-opens
returns-in-Ok-clause-opens g c =
    let a = c.args in
    inr (opened g.S.Source.seen a.job.now (there_value a.there.now) c.tell_again.result _ _ _ _ _ _ _ a.by.now
    (AreToldTo g.E.WriteLines.lines c.open_all.new.err c.tell_again.new.err)
    c.into_sources-sources.result.items c.in-Ok.field-0.sources c.in-Ok.field-0.origins.items c.deref.result.now c.into_sources-sources.ensures.list c.in-Ok.ensures.opened c.into_sources-sources.ensures.unread c.in-Ok.ensures.named c.deref.ensures.value
    (λ lines told. both_told _ _ _ _ _ _ _ c.in-Ok.ensures.told told c.tell_again.ensures.kept) c.tell_again.ensures.tells)

pub returns-in-Err-clause-opens : goal.returns-in-Err-clause-opens
returns-in-Err-clause-opens g c =
    inl (record {
      not_opened = refl;
      told = record {
        name = c.in-Err.field-0.path.now;
        reason = c.in-Err.field-0.reason;
        refused = c.in-Err.ensures.reason;
        stops = stops_then _ _ _ _ _ _ _ _ _ _ c.write_not_had_because.result c.in-Err.ensures.stops c.write_not_had_because.ensures.told c.write_not_had_because.ensures.failed c.write_not_had_because.ensures.kept;
      };
    })

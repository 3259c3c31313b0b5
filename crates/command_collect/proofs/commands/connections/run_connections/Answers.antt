use Rattle.std.proofs.Common.{refl, rules}
use Rattle.std.proofs.lemmas.Option.{IfSome_then}
use Rattle.report_writing.specs.Told.{AreToldTo}
use Rattle.report_writing.proofs.LinesTold.{both_told, is_told}
use Rattle.command_collect.proofs.Collected.{collected, not_collected}
use Rattle.command_collect.proofs.LinesTold.{peers_then}
use Rattle.command_collect.proofs.commands.connections.run_connections.Goals as goal

pub returns-in-Ok-clause-collects : goal.returns-in-Ok-clause-collects
returns-in-Ok-clause-collects g c =
    let first = is_told _ _ _ c.write_listening.result _ c.write_listening.ensures.told c.write_listening.ensures.failed in
    collected g.S.Source.seen g.S.Source.failure g.W.Write.contents _ _ c.args.job.now _ _ _ _ _ _ (AreToldTo g.E.WriteLines.lines c.accept_all.new.err c.run_with.new.err)
    c.into_sources-sources.result.items c.in-Ok.field-0.sources c.in-Ok.field-0.origins.items c.deref.result.now c.into_sources-sources.ensures.list c.in-Ok.ensures.accepted c.into_sources-sources.ensures.unread c.in-Ok.ensures.peers c.deref.ensures.value
    (λ lines told.
    both_told _ _ _ _ _ _ _ first (both_told _ _ _ _ _ _ _ c.in-Ok.ensures.told told c.run_with.ensures.kept) (λ failed. c.run_with.ensures.kept (c.accept_all.ensures.kept failed))) c.run_with.ensures.runs

pub returns-in-Ok-clause-no_time : goal.returns-in-Ok-clause-no_time
returns-in-Ok-clause-no_time g c = IfSome_then c.args.connections.now.idle c.in-Ok.ensures.no_time (λ limit never zero some. absurd (cc (never zero some)))

pub returns-in-Err-clause-collects : goal.returns-in-Err-clause-collects
returns-in-Err-clause-collects g c =
    let first = is_told _ _ _ c.write_listening.result _ c.write_listening.ensures.told c.write_listening.ensures.failed in
    not_collected _ _ _ _ refl (search rules) (record {
      reason = c.in-Err.reason;
      refused = c.in-Err.ensures.reason;
      stops = peers_then _ _ _ _ _ _ _ _ _ _ _ c.write_not_had_because.result first c.in-Err.ensures.stopped c.write_not_had_because.ensures.told c.write_not_had_because.ensures.failed c.accept_all.ensures.kept c.write_not_had_because.ensures.kept;
    })

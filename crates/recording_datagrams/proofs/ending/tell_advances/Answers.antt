use Rattle.std.proofs.Common.{sym, subst}
use Rattle.std.specs.Io.KnownBytes.{Appends}
use Rattle.std.proofs.lemmas.Option.{get_or_from_slice_get, slice_get_within}
use Rattle.ipfix_datagrams.specs.Reaches.{told_of}
use Rattle.ipfix_datagrams.specs.declared.domain_advance.DomainAdvance.{DomainAdvance}
use Rattle.recording_datagrams.specs.Ending.{domain_advance_line}
use Rattle.recording_datagrams.proofs.Told.{told_more}
use Rattle.recording_datagrams.proofs.ending.tell_advances.Goals as goal

pub loop-index-preserved : goal.loop-index-preserved
loop-index-preserved g c =
    let xs = told_of c.args.advances.now.reaches in
    let i = c.loop-index.index in
    let x : DomainAdvance = c.at-domain.result in
    let here = (g.W.WriteLines.lines c.loop-index.out).contents in
    let after = (g.W.WriteLines.lines c.write_advance.new.out).contents in
    record {
      told = told_more (domain_advance_line c.args.peer) xs i x (g.W.WriteLines.lines c.args.out.now).contents here after (slice_get_within xs i x c.at-domain.ensures) c.loop-index.invariant.told
          (subst (λ (d : DomainAdvance). Appends here after (domain_advance_line c.args.peer d)) (sym (get_or_from_slice_get xs i x x c.at-domain.ensures)) c.in_ok-write_advance.ensures.told);
      kept = λ failed. c.write_advance.ensures.kept (c.loop-index.invariant.kept failed);
    }

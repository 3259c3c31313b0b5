use Rattle.std.proofs.Common.{take, sym, subst}
use Rattle.std.specs.Io.KnownBytes.{Appends}
use Rattle.std.proofs.KnownBytes.{Appends-trans}
use Rattle.report_sessions.specs.ReportLines.{report_lines, session_lines}
use Rattle.report_writing.proofs.Numbering.{numbered-more}
use Rattle.report_sessions.proofs.reports.write_reports.Goals as goal

pub loop-index-preserved : goal.loop-index-preserved
loop-index-preserved g c =
    let lines = g.W.WriteLines.lines in
    let rs = c.args.reports.now in
    let more = numbered-more session_lines rs c.loop-index.index c.index-reports-index.result c.loop-index-test.true c.index-reports-index.is in
    record {
      told = subst (λ l. Appends (lines c.args.out.now).contents (lines c.write_session.new.out).contents l) (sym more)
          (Appends-trans _ _ _ (report_lines (take c.loop-index.index rs)) _ c.loop-index.invariant.told c.in_ok-write_session.ensures.told);
      kept = λ failed. c.write_session.ensures.kept (c.loop-index.invariant.kept failed);
    }

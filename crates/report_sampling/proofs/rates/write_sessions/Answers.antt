use Rattle.std.proofs.Common.{take, sym, subst}
use Rattle.std.specs.Io.KnownBytes.{Appends}
use Rattle.std.proofs.KnownBytes.{Appends-trans}
use Rattle.report_sessions.specs.ToldLines.{origin_of}
use Rattle.report_sampling.specs.SamplingLines.{sampling_lines, session_sampling}
use Rattle.report_writing.proofs.Numbering.{numbered-more}
use Rattle.report_sampling.proofs.rates.write_sessions.Goals as goal

pub loop-index-preserved : goal.loop-index-preserved
loop-index-preserved g c =
    let lines = g.W.WriteLines.lines in
    let a = c.args in
    let rs = a.reports.now in
    let more = numbered-more (λ n report. session_sampling n (origin_of a.origins.now n) report) rs c.loop-index.index c.index-reports-index.result c.loop-index-test.true c.index-reports-index.is in
    record {
      told = subst (λ l. Appends (lines a.out.now).contents (lines c.write_numbered.new.out).contents l) (sym more)
          (Appends-trans _ _ _ (sampling_lines a.origins.now (take c.loop-index.index rs)) _ c.loop-index.invariant.told c.in_ok-write_numbered.ensures.told);
      kept = λ failed. c.write_numbered.ensures.kept (c.loop-index.invariant.kept failed);
    }

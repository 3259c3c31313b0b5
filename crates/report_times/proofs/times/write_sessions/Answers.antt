use Rattle.std.proofs.Common.{◌+◌, take, sym, subst, None, arith}
use Rattle.std.specs.Io.KnownBytes.{Appends}
use Rattle.std.proofs.KnownBytes.{Appends-trans}
use Rattle.flow_times.specs.Starts.{counts}
use Rattle.flow_times.specs.declared.notes.TimesReport.{TimesReport}
use Rattle.report_sessions.specs.ToldLines.{origin_of}
use Rattle.report_times.specs.TimesLines.{session_times, times_lines}
use Rattle.report_writing.proofs.Numbering.{numbered_from}
use Rattle.report_times.proofs.times.write_sessions.Goals as goal

abbrev no_report : TimesReport
no_report = record { untimed = None; starts = counts 0 0 0 0 0 0 0 0 }

pub loop-index-preserved : goal.loop-index-preserved
loop-index-preserved g c =
    let lines = g.W.WriteLines.lines in
    let a = c.args in
    let rs = a.sessions.now in
    let i = c.loop-index.index in
    let more = numbered_from (λ n report. session_times a.noting n (origin_of a.origins.now n) report) 1 rs i (i + 1) no_report c.loop-index-test.true (omega arith) in
    record {
      told = subst (λ l. Appends (lines a.out.now).contents (lines c.write_numbered.new.out).contents l) (sym more)
          (Appends-trans _ _ _ (times_lines a.noting a.origins.now (take i rs)) _ c.loop-index.invariant.told c.in_ok-write_numbered.ensures.told);
      kept = λ failed. c.write_numbered.ensures.kept (c.loop-index.invariant.kept failed);
    }

use Rattle.std.proofs.Common.{take}
use Rattle.std.specs.Io.KnownBytes.{Appends}
use Rattle.report_sessions.specs.ReportLines.{report_lines}
use Rattle.report_sessions.proofs.reports.write_reports.Given as goal

abbrev pub invariant-loop-index : goal.invariant-loop-index
invariant-loop-index g l = record {
  told : Appends (g.W.WriteLines.lines l.initial.out).contents (g.W.WriteLines.lines l.out).contents (report_lines (take l.index l.reports));
  kept : (g.W.WriteLines.lines l.initial.out).failed → (g.W.WriteLines.lines l.out).failed;
}

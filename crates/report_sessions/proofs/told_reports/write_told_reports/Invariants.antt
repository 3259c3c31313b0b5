use Rattle.std.proofs.Common.{take}
use Rattle.std.specs.Io.KnownBytes.{Appends}
use Rattle.report_sessions.specs.EndedSessions.{TellsEnded}
use Rattle.report_sessions.specs.ToldLines.{told_lines}
use Rattle.report_sessions.proofs.told_reports.write_told_reports.Given as goal

abbrev pub invariant-loop-index : goal.invariant-loop-index
invariant-loop-index g l = record {
  told : TellsEnded g.S.Source.failure l.sources (take l.index l.reports) (told_lines l.verbosity l.elements l.origins) (Appends (g.W.WriteLines.lines l.initial.out).contents (g.W.WriteLines.lines l.out).contents);
  kept : (g.W.WriteLines.lines l.initial.out).failed → (g.W.WriteLines.lines l.out).failed;
}

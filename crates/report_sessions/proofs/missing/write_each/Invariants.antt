use Rattle.std.proofs.Common.{take}
use Rattle.std.specs.Io.KnownBytes.{Appends}
use Rattle.report_sessions.specs.MissingLines.{lack_lines}
use Rattle.report_sessions.proofs.missing.write_each.Given as goal

abbrev pub invariant-loop-place : goal.invariant-loop-place
invariant-loop-place g l = record {
  told : Appends (g.W.WriteLines.lines l.initial.out).contents (g.W.WriteLines.lines l.out).contents (lack_lines (g.L.Lack.words l.elements) (take l.place l.all) l.counts);
  kept : (g.W.WriteLines.lines l.initial.out).failed → (g.W.WriteLines.lines l.out).failed;
}

use Rattle.std.proofs.Common.{ℕ, List, map, take}
use Rattle.std.specs.Borrow.{Bor}
use Rattle.report_writing.specs.Told.{AreToldTo}
use Rattle.period_collect.specs.LeftOutFiles.{paths_at}
use Rattle.period_collect.specs.ManyRows.{large_lines}
use Rattle.period_collect.proofs.telling.tell_large.Given as goal

-- so far
abbrev pub invariant-loop-place : goal.invariant-loop-place
invariant-loop-place g l = record {
  told : AreToldTo g.E.WriteLines.lines l.initial.err l.err (large_lines l.limit (paths_at (take l.place-index l.out) (map (λ (w : Bor (List ℕ)). w.now) l.paths)));
  kept : (g.E.WriteLines.lines l.initial.err).failed → (g.E.WriteLines.lines l.err).failed;
}

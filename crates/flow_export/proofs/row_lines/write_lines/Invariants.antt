use Rattle.std.proofs.Common.{length, All}
use Rattle.flow_export.specs.Fitting.{IsExportable}
use Rattle.flow_export.specs.Fronts.{IsFront}
use Rattle.flow_export.proofs.InBlocks.{Written}
use Rattle.flow_export.proofs.row_lines.write_lines.Given as goal

abbrev pub invariant-loop-row : goal.invariant-loop-row
invariant-loop-row g l =
    All (IsExportable l.plan) l.rows × Written (g.L.RowLines.line_of l.lines l.plan) l.fn.rows l.rows l.text.items (g.W.Write.contents l.fn.out) (g.W.Write.contents l.out)
    × IsFront (g.L.RowLines.front_of l.lines l.plan) l.front

abbrev pub decreases-loop-row : goal.decreases-loop-row
decreases-loop-row g l = length l.rows

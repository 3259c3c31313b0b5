use Rattle.std.proofs.Common.{take}
use Rattle.table_parts.specs.Parts.{AreParts, part_values}
use Rattle.table_parts.proofs.parts.read_parts.Given as goal

-- those so far were read
abbrev pub invariant-loop-place : goal.invariant-loop-place
invariant-loop-place g l = AreParts (g.T.ReadText.has l.texts) l.plan (take l.place l.all) (part_values l.parts)

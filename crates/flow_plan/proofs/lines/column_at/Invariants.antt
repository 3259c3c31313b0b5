use Rattle.std.proofs.Common.{◌≡◌, take}
use Rattle.flow_plan.specs.Places.{column_after}
use Rattle.flow_plan.proofs.lines.column_at.Given as goal

-- the column after the octets so far
abbrev pub invariant-loop-octet : goal.invariant-loop-octet
invariant-loop-octet l = l.column ≡ column_after (take l.octet-index l.octet-items)

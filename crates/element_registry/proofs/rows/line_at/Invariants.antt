use Rattle.std.proofs.Common.{◌≡◌, ◌+◌, take}
use Rattle.std.specs.Prelude.{◌==◌, count_by}
use Rattle.element_registry.specs.TextLines.{newline}
use Rattle.element_registry.proofs.rows.line_at.Given as goal

-- the lines that have begun so far
abbrev pub invariant-loop-octet : goal.invariant-loop-octet
invariant-loop-octet l = l.line ≡ count_by (λ b. b == newline) (take l.octet-index l.octet-items) + 1

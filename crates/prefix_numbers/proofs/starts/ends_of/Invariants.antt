use Rattle.std.proofs.Common.{take}
use Rattle.std.specs.Prelude.{All}
use Rattle.prefix_numbers.specs.Spans.{HasEndsOf}
use Rattle.prefix_numbers.proofs.starts.ends_of.Given as goal

-- both ends of each prefix up to here are found
abbrev pub invariant-loop-row : goal.invariant-loop-row
invariant-loop-row l = All (HasEndsOf l.width l.ends.items) (take l.row-index l.rows)

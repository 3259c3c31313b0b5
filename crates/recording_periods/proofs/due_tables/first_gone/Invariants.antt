use Rattle.std.proofs.Common.{ℕ, List, length}
use Rattle.std.specs.Prelude.{All}
use Rattle.recording_periods.specs.TableStates.{IsFirstGone, IsListed}
use Rattle.recording_periods.proofs.due_tables.first_gone.Given as goal

-- what is left says it of all
abbrev pub invariant-loop-path : goal.invariant-loop-path
invariant-loop-path l = record {
  all : All (IsListed l.files) l.left → All (IsListed l.files) l.initial.left;
  first : (text : List ℕ) → IsFirstGone l.files l.left text → IsFirstGone l.files l.initial.left text;
}

abbrev pub decreases-loop-path : goal.decreases-loop-path
decreases-loop-path l = length l.left

use Rattle.std.proofs.Common.{length}
use Rattle.std.specs.Prelude.{All, Any}
use Rattle.recording_periods.specs.TableStates.{IsLate, IsNamed}
use Rattle.recording_periods.proofs.due_tables.all_named.Given as goal

-- what is left says it of all
abbrev pub invariant-loop-name : goal.invariant-loop-name
invariant-loop-name l = record {
  all : All (IsNamed l.paths) l.left → All (IsNamed l.paths) l.initial.left;
  some : Any (IsLate l.paths) l.left → Any (IsLate l.paths) l.initial.left;
}

abbrev pub decreases-loop-name : goal.decreases-loop-name
decreases-loop-name l = length l.left

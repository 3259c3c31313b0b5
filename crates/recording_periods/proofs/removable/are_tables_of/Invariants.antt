use Rattle.std.proofs.Common.{length}
use Rattle.std.specs.Prelude.{All}
use Rattle.recording_periods.specs.Removable.{HasTableOf}
use Rattle.recording_periods.proofs.removable.are_tables_of.Given as goal

-- what is left says it of all
abbrev pub invariant-loop-receipt : goal.invariant-loop-receipt
invariant-loop-receipt l = record {
  all : All (HasTableOf l.files) l.left → All (HasTableOf l.files) l.initial.left;
  none : ¬ All (HasTableOf l.files) l.left → ¬ All (HasTableOf l.files) l.initial.left;
}

abbrev pub decreases-loop-receipt : goal.decreases-loop-receipt
decreases-loop-receipt l = length l.left

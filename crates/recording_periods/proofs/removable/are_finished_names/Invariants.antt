use Rattle.std.proofs.Common.{length}
use Rattle.std.specs.Prelude.{All, string_bytes}
use Rattle.recording_names.specs.FinishedNames.{IsFinishedName}
use Rattle.recording_periods.proofs.removable.are_finished_names.Given as goal

-- what is left says it of all
abbrev pub invariant-loop-name : goal.invariant-loop-name
invariant-loop-name l = record {
  all : All (λ name. IsFinishedName (string_bytes name)) l.left → All (λ name. IsFinishedName (string_bytes name)) l.initial.left;
  none : ¬ All (λ name. IsFinishedName (string_bytes name)) l.left → ¬ All (λ name. IsFinishedName (string_bytes name)) l.initial.left;
}

abbrev pub decreases-loop-name : goal.decreases-loop-name
decreases-loop-name l = length l.left

use Rattle.std.proofs.Common.{length}
use Rattle.std.specs.Prelude.{All, Any, string_bytes}
use Rattle.recording_periods.specs.TableStates.{IsPathTo}
use Rattle.recording_periods.proofs.due_tables.is_listed.Given as goal

-- what is left says it of all
abbrev pub invariant-loop-name : goal.invariant-loop-name
invariant-loop-name l = record {
  all : All (λ name. ¬ IsPathTo (string_bytes name) (string_bytes l.path)) l.left → All (λ name. ¬ IsPathTo (string_bytes name) (string_bytes l.path)) l.initial.left;
  some : Any (λ name. IsPathTo (string_bytes name) (string_bytes l.path)) l.left → Any (λ name. IsPathTo (string_bytes name) (string_bytes l.path)) l.initial.left;
}

abbrev pub decreases-loop-name : goal.decreases-loop-name
decreases-loop-name l = length l.left

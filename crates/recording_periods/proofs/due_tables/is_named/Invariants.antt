use Rattle.std.proofs.Common.{length}
use Rattle.std.specs.Prelude.{All, Any, string_bytes}
use Rattle.recording_periods.specs.TableStates.{IsPathTo}
use Rattle.recording_periods.proofs.due_tables.is_named.Given as goal

-- what is left says it of all
abbrev pub invariant-loop-path : goal.invariant-loop-path
invariant-loop-path l = record {
  all : All (λ path. ¬ IsPathTo (string_bytes l.name) (string_bytes path)) l.left → All (λ path. ¬ IsPathTo (string_bytes l.name) (string_bytes path)) l.initial.left;
  some : Any (λ path. IsPathTo (string_bytes l.name) (string_bytes path)) l.left → Any (λ path. IsPathTo (string_bytes l.name) (string_bytes path)) l.initial.left;
}

abbrev pub decreases-loop-path : goal.decreases-loop-path
decreases-loop-path l = length l.left

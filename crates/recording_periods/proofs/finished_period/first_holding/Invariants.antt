use Rattle.std.proofs.Common.{ℕ, List, length}
use Rattle.std.specs.Prelude.{All, string_bytes}
use Rattle.recording_periods.specs.FinishedPeriods.{HoldsUp, IsFirstToHold}
use Rattle.recording_periods.proofs.finished_period.first_holding.Given as goal

-- what is left says it of all
abbrev pub invariant-loop-name : goal.invariant-loop-name
invariant-loop-name l = record {
  all : All (λ name. ¬ HoldsUp l.period.begins (string_bytes name)) l.left → All (λ name. ¬ HoldsUp l.period.begins (string_bytes name)) l.initial.left;
  first : (text : List ℕ) → IsFirstToHold l.period.begins l.left text → IsFirstToHold l.period.begins l.initial.left text;
}

abbrev pub decreases-loop-name : goal.decreases-loop-name
decreases-loop-name l = length l.left

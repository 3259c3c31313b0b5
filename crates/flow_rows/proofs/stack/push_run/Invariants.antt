use Rattle.std.proofs.Common.{◌≡◌, ℕ, ◌+◌, ◌≤◌, List, vec_len, vec_capacity}
use Rattle.flow_rows.specs.Rows.{IsRun, total_at}
use Rattle.flow_rows.specs.Stacks.{AreRuns, stack_total}
use Rattle.flow_rows.proofs.stack.push_run.Given as goal

abbrev pub invariant-loop-top : goal.invariant-loop-top
invariant-loop-top g l = record {
  totals : (q : List ℕ) (i : ℕ) → stack_total l.runs.items q i + total_at l.run.items q i ≡ stack_total l.initial.runs.items q i + total_at l.initial.run.items q i;
  ordered : AreRuns l.runs.items;
  order : IsRun l.run.items;
  room : vec_len l.runs + 1 ≤ vec_capacity l.runs;
}

abbrev pub decreases-loop-top : goal.decreases-loop-top
decreases-loop-top g l = vec_len l.runs

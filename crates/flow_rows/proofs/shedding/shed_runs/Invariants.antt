use Rattle.std.proofs.Common.{◌≡◌, ℕ, ◌+◌, ◌≤◌, List}
use Rattle.flow_rows.specs.Stacks.{AreRuns, stack_total}
use Rattle.flow_rows.proofs.shedding.shed_runs.Given as goal

abbrev pub invariant-loop-i : goal.invariant-loop-i
invariant-loop-i g l = record {
  totals : (q : List ℕ) (k : ℕ) → stack_total l.runs q k + stack_total l.apart.items q k ≡ stack_total l.initial.runs q k + stack_total l.initial.apart.items q k;
  fewer : (q : List ℕ) (k : ℕ) → stack_total l.runs q k ≤ stack_total l.initial.runs q k;
  ordered : AreRuns l.runs;
  ordered_apart : AreRuns l.apart.items;
}

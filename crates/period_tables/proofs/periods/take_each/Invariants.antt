use Rattle.std.proofs.Common.{length}
use Rattle.report_writing.specs.declared.status.Status.TheVariants.{Well}
use Rattle.period_tables.specs.Taking.{IsStep}
use Rattle.period_tables.proofs.StepsTaken.{SoFar}
use Rattle.period_tables.proofs.periods.take_each.Given as goal

abbrev pub invariant-loop-period : goal.invariant-loop-period
invariant-loop-period g l =
    SoFar (IsStep g.F.Recordings l.round l.fn.unfinished) l.fn.periods l.left
    (record { work = l.fn.work; status = Well }) (record { work = l.work; status = l.status })

abbrev pub decreases-loop-period : goal.decreases-loop-period
decreases-loop-period g l = length l.left

use Rattle.std.proofs.Common.{◌≡◌, ◌∷◌, length, arith, rules}
use Rattle.report_writing.specs.declared.status.Status.TheVariants.{Well}
use Rattle.period_tables.specs.Taking.{IsStep}
use Rattle.period_tables.proofs.StepsTaken.{at_end, one_more}
use Rattle.period_tables.proofs.periods.take_each.Goals as goal

pub loop-period-init : goal.loop-period-init
loop-period-init g c = λ after steps. steps

pub loop-period-preserved : goal.loop-period-preserved
loop-period-preserved g c =
    let split : c.loop-period.left.now ≡ c.in-Some.period.now ∷ c.in-Some.rest.now = search rules in
    one_more (IsStep g.F.Recordings c.args.round c.args.unfinished.now)
    c.args.periods.now c.loop-period.left.now c.in-Some.rest.now c.in-Some.period.now
    (record { work = c.args.work.now; status = Well }) (record { work = c.loop-period.work; status = c.loop-period.status })
    (record { work = c.take_next-ended.new.work; status = c.worse_of-status.result })
    split c.loop-period.invariant (c.take_next-ended.result, c.take_next-ended.ensures, c.worse_of-status.ensures)

pub returns : goal.returns
returns g c =
    let empty : length c.loop-period.left.now ≡ 0 = grind (arith, c.split_first.ensures.variant) in
    at_end (IsStep g.F.Recordings c.args.round c.args.unfinished.now)
    c.args.periods.now c.loop-period.left.now
    (record { work = c.args.work.now; status = Well }) (record { work = c.loop-period.work; status = c.loop-period.status })
    empty c.loop-period.invariant

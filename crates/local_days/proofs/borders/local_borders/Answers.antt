use Rattle.std.proofs.Common.{arith}
use Rattle.jiff.specs.ZoneView.{plain_zone}
use Rattle.local_days.proofs.Rising.{are_all, next_day}
use Rattle.local_days.proofs.borders.local_borders.Goals as goal

pub loop-day-preserved : goal.loop-day-preserved
loop-day-preserved c =
    next_day c.args.interval (plain_zone c.args.zone) c.loop-day.day c.loop-day.borders.items c.loop-day.invariant c.start_on.result _ c.start_on.ensures.some c.start_on.ensures.none c.in_ok-push_start.ensures

pub returns : goal.returns
returns c =
    are_all c.args.interval (plain_zone c.args.zone) c.loop-day.day c.loop-day.borders.items c.loop-day.invariant (omega (arith, c.loop-day-test.false, c.loop-day.auto.day-end))

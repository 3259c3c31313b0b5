use Rattle.std.proofs.Common.{rules, sym}
use Rattle.command_tables.specs.Days.{IsPlaced}
use Rattle.command_tables.proofs.EachZipped.{zip_all, zip_more}
use Rattle.command_tables.proofs.days.placing.place_periods.Goals as goal

pub loop-period-preserved : goal.loop-period-preserved
loop-period-preserved c =
    zip_more (IsPlaced c.args.calendar.now) c.args.periods.now c.loop-period.period-index _ _ c.loop-period.placed.items c.push.new.self.items c.place.result
    c.loop-period-test.true (sym c.period-item.is) (search rules) c.loop-period.invariant c.place.ensures

pub returns : goal.returns
returns c = zip_all (IsPlaced c.args.calendar.now) c.args.periods.now c.loop-period.placed.items c.loop-period.period-index c.loop-period-test.false c.loop-period.invariant

use Rattle.std.proofs.Common.{rules, sym}
use Rattle.command_tables.specs.Named.{IsNamesOf}
use Rattle.command_tables.proofs.EachZipped.{zip_all, zip_more}
use Rattle.command_tables.proofs.days.names.names_of.Goals as goal

pub loop-period-preserved : goal.loop-period-preserved
loop-period-preserved c =
    zip_more IsNamesOf c.args.periods.now c.loop-period.period-index _ _ c.loop-period.names.items c.push.new.self.items c.in_ok-part.part
    c.loop-period-test.true (sym c.period-item.is) (search rules) c.loop-period.invariant c.in_ok-part.ensures

pub returns : goal.returns
returns c = zip_all IsNamesOf c.args.periods.now c.loop-period.names.items c.loop-period.period-index c.loop-period-test.false c.loop-period.invariant

use Rattle.receipt_differences.proofs.Steps.{after}
use Rattle.receipt_differences.proofs.numbers.write_count_differences.Goals as goal

pub returns : goal.returns
returns g c =
    let lines = g.E.WriteLines.lines in
    let r = c.write_unless_equal-6.result in
    let end = c.write_unless_equal-6.new.err in
    let five = after lines c.write_unless_equal-4.new.err c.write_unless_equal-5.new.err end r _ _ c.in_ok-write_unless_equal-5.ensures.told c.write_unless_equal-5.ensures.kept c.write_unless_equal-6.ensures in
    let four = after lines c.write_unless_equal-3.new.err c.write_unless_equal-4.new.err end r _ _ c.in_ok-write_unless_equal-4.ensures.told c.write_unless_equal-4.ensures.kept five in
    let three = after lines c.write_unless_equal-2.new.err c.write_unless_equal-3.new.err end r _ _ c.in_ok-write_unless_equal-3.ensures.told c.write_unless_equal-3.ensures.kept four in
    let two = after lines c.write_unless_equal.new.err c.write_unless_equal-2.new.err end r _ _ c.in_ok-write_unless_equal-2.ensures.told c.write_unless_equal-2.ensures.kept three in
    after lines c.args.err.now c.write_unless_equal.new.err end r _ _ c.in_ok-write_unless_equal.ensures.told c.write_unless_equal.ensures.kept two

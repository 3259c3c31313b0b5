use Rattle.receipt_differences.proofs.Steps.{after}
use Rattle.receipt_differences.proofs.tables.write_row_differences.Goals as goal

pub returns : goal.returns
returns g c =
    let lines = g.E.WriteLines.lines in
    let r = c.write_unless_same.result in
    let end = c.write_unless_same.new.err in
    let sums = rw (c.deref.ensures.value, c.deref-2.ensures.value) at c.in_ok-write_sums.ensures.told in
    let two = after lines c.write_unless_equal.new.err c.write_sums.new.err end r _ _ sums c.write_sums.ensures.kept c.write_unless_same.ensures in
    after lines c.args.err.now c.write_unless_equal.new.err end r _ _ c.in_ok-write_unless_equal.ensures.told c.write_unless_equal.ensures.kept two

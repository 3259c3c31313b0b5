use Rattle.receipt_differences.proofs.Steps.{after}
use Rattle.receipt_differences.proofs.remade.write_remade_differences.Goals as goal

pub returns : goal.returns
returns g c =
    let lines = g.E.WriteLines.lines in
    let r = c.write_other_unless.result in
    let end = c.write_other_unless.new.err in
    let inputs = rw (c.as_slice.ensures.value, c.as_slice-2.ensures.value) at c.in_ok-write_input_differences.ensures.told in
    let complete = rw (c.is_same.ensures, c.is_complete-complete.ensures, c.deref.ensures.value) at c.write_other_unless.ensures in
    let three = after lines c.write_count_differences.new.err c.write_row_differences.new.err end r _ _ c.in_ok-write_row_differences.ensures.told c.write_row_differences.ensures.kept complete in
    let two = after lines c.write_input_differences.new.err c.write_count_differences.new.err end r _ _ c.in_ok-write_count_differences.ensures.told c.write_count_differences.ensures.kept three in
    after lines c.args.err.now c.write_input_differences.new.err end r _ _ inputs c.write_input_differences.ensures.kept two

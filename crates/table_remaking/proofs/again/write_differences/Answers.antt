use Rattle.receipt_differences.proofs.Steps.{after}
use Rattle.table_remaking.proofs.again.write_differences.Goals as goal

pub returns : goal.returns
returns g c =
    let lines = g.E.WriteLines.lines in
    let r = c.write_text_difference.result in
    let end = c.write_text_difference.new.err in
    let text = rw c.as_slice.ensures.value at c.write_text_difference.ensures in
    let two = after lines c.write_table_differences.new.err c.write_remade_differences.new.err end r _ _ c.in_ok-write_remade_differences.ensures.told c.write_remade_differences.ensures.kept text in
    after lines c.args.err.now c.write_table_differences.new.err end r _ _ c.in_ok-write_table_differences.ensures.told c.write_table_differences.ensures.kept two

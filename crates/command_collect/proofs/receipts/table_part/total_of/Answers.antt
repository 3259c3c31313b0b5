use Rattle.std.proofs.Common.{◌<◌, ◌+◌, ◌∙◌, sym, ap, length, arith}
use Rattle.std.proofs.lemmas.List.{length-map}
use Rattle.flow_table.specs.AddedUp.{rows_in}
use Rattle.flow_table.specs.SameTables.{value_of}
use Rattle.command_collect.proofs.Sums.{summed_more}
use Rattle.command_collect.proofs.receipts.table_part.total_of.Goals as goal

pub loop-index-preserved : goal.loop-index-preserved
loop-index-preserved g c =
    let inv = c.loop-index.invariant in
    let rows = rows_in c.args.table.now in
    let row = value_of c.row_at.new.row in
    let within : c.loop-index.index < length rows = omega (arith, c.loop-index-test.true, c.len-index-end.ensures, length-map c.args.table.now.rows.items value_of) in
    record {
      total = summed_more (g.N.RowNumber.number c.args.numbers.now) rows c.loop-index.index c.loop-index.total _ row within inv.total (sym (c.in_ok-row_at.ensures.row row)) (ap (λ n. c.loop-index.total + n) (c.from-total.ensures ∙ c.number_in.ensures));
      small = omega (arith, inv.small, c.number_in.type_inv, c.from-total.ensures);
    }

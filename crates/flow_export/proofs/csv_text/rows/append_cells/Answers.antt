use Rattle.flow_export.proofs.ShownKeys.{shown_all, shown_more}
use Rattle.flow_export.proofs.csv_text.rows.append_cells.Goals as goal

pub loop-index-preserved : goal.loop-index-preserved
loop-index-preserved c =
    shown_more c.args.keys.now c.args.cells.now c.loop-index.index _ _ c.shown_cell-cell.result _ _ _ c.requires c.loop-index-test.true c.shown_cell-cell.ensures
    c.loop-index.invariant c.in_ok-append_next_cell.ensures

pub returns : goal.returns
returns c = shown_all c.args.keys.now c.args.cells.now c.loop-index.index _ _ c.loop-index-test.false c.loop-index.invariant

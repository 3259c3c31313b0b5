use Rattle.std.proofs.Common.{arith}
use Rattle.flow_export.proofs.KeyCells.{same_length, cell_at, cell_placed, cells_placed}
use Rattle.flow_export.proofs.ipfix_text.rows.place_cells.Goals as goal

pub bounds-kinds-index : goal.bounds-kinds-index
bounds-kinds-index c = omega (arith, same_length c.args.kinds.now c.args.cells.now c.requires.fit)

pub place_cell-end-requires-clause-fits : goal.place_cell-end-requires-clause-fits
place_cell-end-requires-clause-fits c = cell_at c.args.kinds.now c.args.cells.now c.loop-index.index _ _ c.requires.fit c.loop-index-test.true

pub loop-index-preserved : goal.loop-index-preserved
loop-index-preserved c = record {
  placed = cell_placed c.args.kinds.now c.args.cells.now c.loop-index.index _ _ c.requires.fit c.loop-index-test.true c.loop-index.invariant.placed c.place_cell-end.ensures.placed;
  short = omega (arith, c.place_cell-end.ensures.short, c.loop-index.invariant.short);
}

pub returns : goal.returns
returns c = record {
  placed = cells_placed c.args.kinds.now c.args.cells.now c.loop-index.index c.requires.fit c.loop-index-test.false c.loop-index.invariant.placed;
  short = omega (arith, c.loop-index.invariant.short);
}

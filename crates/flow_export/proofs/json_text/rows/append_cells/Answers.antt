use Rattle.std.proofs.Common.{length, ◌<◌, arith}
use Rattle.ipfix_elements.specs.JsonValues.{json_cell}
use Rattle.flow_export.specs.Shown.{shown_cells}
use Rattle.flow_export.proofs.ObjectParts.{pair_more, pairs_all}
use Rattle.flow_export.proofs.ShownKeys.{labels_beside, shown_labelled, shown_length}
use Rattle.flow_export.proofs.json_text.rows.append_cells.Goals as goal

pub loop-index-preserved : goal.loop-index-preserved
loop-index-preserved c =
    let keys = c.args.keys.now in
    let cells = c.args.cells.now in
    let i = c.loop-index.index in
    let label = c.index-labels-index.result in
    let cell = c.shown_cell-cell.result in
    let within : i < length (shown_cells keys cells) = omega (arith, shown_length keys cells, c.loop-index-test.true) in
    pair_more json_cell c.args.labels.now (shown_cells keys cells) i label cell _ _ _ (labels_beside c.args.labels.now keys cells c.requires.labels) within c.index-labels-index.is c.loop-index.invariant
    (shown_labelled label keys cells i _ _ cell cell _ _ c.requires.keys c.loop-index-test.true c.shown_cell-cell.ensures c.in_ok-append_cell.ensures)

pub returns : goal.returns
returns c =
    let keys = c.args.keys.now in
    let cells = c.args.cells.now in
    pairs_all json_cell c.args.labels.now (shown_cells keys cells) c.loop-index.index _ _ (labels_beside c.args.labels.now keys cells c.requires.labels)
    (omega (arith, shown_length keys cells, c.loop-index-test.false)) c.loop-index.invariant

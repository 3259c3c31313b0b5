use Rattle.std.proofs.Common.{subst, sym, List, arith, rules}
use Rattle.std.specs.List.{AllZip}
use Rattle.ipfix_elements.specs.declared.cell.Cell.{Cell}
use Rattle.ipfix_elements.specs.declared.kind.Kind.{Kind}
use Rattle.flow_table.specs.Fitting.{IsCellOf}
use Rattle.flow_export.proofs.KeyCells.{row_placed}
use Rattle.flow_export.proofs.Lengths.{few_parts, row_short}
use Rattle.flow_export.proofs.ipfix_text.rows.place_row.Goals as goal

pub place_cells-key-requires-clause-fit : goal.place_cells-key-requires-clause-fit
place_cells-key-requires-clause-fit c =
    subst (λ (kinds : List Kind). AllZip IsCellOf kinds c.deref.result.now) (sym c.kinds.ensures.value)
    (subst (λ (cells : List Cell). AllZip IsCellOf c.args.plan.now.kinds cells) (sym c.deref.ensures.value) c.requires.fits.fields.key.fit)

pub place_cells-key-requires-clause-room : goal.place_cells-key-requires-clause-room
place_cells-key-requires-clause-room c =
    let few = few_parts c.args.plan.now c.args.row.now c.first-first.ensures.sound c.requires.fits in
    let first = c.place_number-times.ensures in
    let last = c.place_number-times-2.ensures in
    omega (arith, few.0, c.deref.ensures.len, first.moved, first.room, last.moved, last.room)

pub place_numbers-sums-requires : goal.place_numbers-sums-requires
place_numbers-sums-requires c =
    let few = few_parts c.args.plan.now c.args.row.now c.first-first.ensures.sound c.requires.fits in
    let first = c.place_number-times.ensures in
    let last = c.place_number-times-2.ensures in
    let key = c.place_cells-key.ensures in
    omega (arith, few.0, few.1, c.deref.ensures.len, c.deref-2.ensures.len, first.moved, first.room, last.moved, last.room, key.short, key.placed.room)

pub place_number-requires : goal.place_number-requires
place_number-requires c =
    let few = few_parts c.args.plan.now c.args.row.now c.first-first.ensures.sound c.requires.fits in
    let first = c.place_number-times.ensures in
    let last = c.place_number-times-2.ensures in
    let key = c.place_cells-key.ensures in
    let sums = c.place_numbers-sums.ensures in
    omega (arith, few.0, few.1, c.deref.ensures.len, c.deref-2.ensures.len, first.moved, first.room, last.moved, last.room, key.short, key.placed.room, sums.end, sums.placed.room)

pub returns-clause-placed : goal.returns-clause-placed
returns-clause-placed c =
    row_placed c.args.intervals c.args.plan.now c.args.row.now c.first-first.result c.last.result c.kinds.result.now c.deref.result.now c.deref-2.result.now c.requires.fits
    c.first-first.ensures.value c.last.ensures.value c.kinds.ensures.value c.deref.ensures.value c.deref-2.ensures.value
    c.place_number-times.ensures (search rules) c.place_cells-key.ensures.placed c.place_numbers-sums.ensures.placed (search rules)

pub returns-clause-short : goal.returns-clause-short
returns-clause-short c = omega (arith, (returns-clause-placed c).moved, row_short c.args.intervals c.args.plan.now c.args.row.now c.first-first.ensures.sound c.requires.fits)

use Rattle.std.proofs.Common.{◌≡◌, ◌++◌, take}
use Rattle.std.specs.List.{flat_map}
use Rattle.flow_export.specs.Shown.{shown_cells}
use Rattle.flow_export.specs.Written.{next_cell}
use Rattle.flow_export.proofs.csv_text.rows.append_cells.Given as goal

abbrev pub invariant-loop-index : goal.invariant-loop-index
invariant-loop-index l = l.out.items ≡ l.fn.out.items ++ flat_map next_cell (take l.index (shown_cells l.keys l.cells))

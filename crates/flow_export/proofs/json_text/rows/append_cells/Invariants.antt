use Rattle.std.proofs.Common.{◌≡◌, ◌++◌, take}
use Rattle.std.specs.List.{flat_map, zip}
use Rattle.flow_export.specs.JsonParts.{labelled}
use Rattle.flow_export.specs.Shown.{shown_cells}
use Rattle.ipfix_elements.specs.JsonValues.{json_cell}
use Rattle.flow_export.proofs.json_text.rows.append_cells.Given as goal

abbrev pub invariant-loop-index : goal.invariant-loop-index
invariant-loop-index l = l.out.items ≡ l.fn.out.items ++ flat_map (labelled json_cell) (take l.index (zip l.labels (shown_cells l.keys l.cells)))

use Rattle.std.proofs.Common.{◌+◌, ◌*◌, ◌≤◌, take}
use Rattle.ipfix_elements.specs.Placed.{Placed}
use Rattle.flow_export.specs.RowOctets.{cells_octets}
use Rattle.flow_export.proofs.ipfix_text.rows.place_cells.Given as goal

abbrev pub invariant-loop-index : goal.invariant-loop-index
invariant-loop-index l = record {
  placed : Placed l.fn.octets l.octets l.at (cells_octets (take l.index l.kinds) (take l.index l.cells)) l.end;
  short : l.end ≤ l.at + 16 * l.index;
}

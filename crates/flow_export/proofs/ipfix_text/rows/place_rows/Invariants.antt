use Rattle.std.proofs.Common.{◌≡◌, ◌+◌, ◌*◌, ◌≤◌, drop, take}
use Rattle.ipfix_elements.specs.Placed.{Placed}
use Rattle.flow_export.specs.RowOctets.{octets_of_rows}
use Rattle.flow_export.proofs.ipfix_text.rows.place_rows.Given as goal

abbrev pub invariant-loop : goal.invariant-loop
invariant-loop l = record {
  left : l.rows ≡ drop l.counter l.fn.rows;
  placed : Placed l.fn.octets l.octets l.at (octets_of_rows l.intervals l.plan (take l.counter l.fn.rows)) l.end;
  short : l.end ≤ l.at + 184 * l.counter;
}

use Rattle.std.proofs.Common.{◌≡◌, ◌+◌, ◌*◌, take}
use Rattle.std.specs.List.{flat_map}
use Rattle.ipfix_elements.specs.Placed.{Placed}
use Rattle.flow_export.specs.IpfixText.{number_octets}
use Rattle.flow_export.proofs.ipfix_text.rows.place_numbers.Given as goal

abbrev pub invariant-loop-number : goal.invariant-loop-number
invariant-loop-number l = record {
  placed : Placed l.fn.octets l.octets l.at (flat_map number_octets (take l.number-index l.numbers)) l.end;
  end : l.end ≡ l.at + 8 * l.number-index;
}

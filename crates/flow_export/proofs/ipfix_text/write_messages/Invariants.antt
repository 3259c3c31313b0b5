use Rattle.std.proofs.Common.{◌≡◌, ◌*◌, drop, length}
use Rattle.std.specs.Io.KnownBytes.{Appends}
use Rattle.std.specs.List.{flat_map, range_with_len}
use Rattle.flow_export.specs.declared.ipfix_text.messages.TheConstants.{MOST_OCTETS}
use Rattle.flow_export.specs.declared.ipfix_text.rows.TheConstants.{ROWS_A_MESSAGE}
use Rattle.flow_export.specs.IpfixText.{message_of_rows_in}
use Rattle.flow_export.proofs.ipfix_text.write_messages.Given as goal

abbrev pub invariant-loop-index : goal.invariant-loop-index
invariant-loop-index g l = record {
  written : Appends (g.W.Write.contents l.initial.out) (g.W.Write.contents l.out) (flat_map (message_of_rows_in l.intervals l.plan l.export_time l.fn.rows) (range_with_len 0 l.index));
  room : length l.message ≡ MOST_OCTETS;
  left : l.rows ≡ drop (ROWS_A_MESSAGE * l.index) l.fn.rows;
}

-- The octets of rows and of their messages, and of the cells of a key.
use Rattle.std.specs.Prelude.{◌≡◌, ℕ, ◌+◌, List, ◌++◌, take, zip, flat_map}
use Rattle.ipfix_wire.specs.MessageHeader.{header_octets}
use Rattle.ipfix_wire.specs.SetHeader.{set_octets}
use Rattle.ipfix_wire.specs.declared.header.TheConstants.{HEADER_LENGTH}
use Rattle.ipfix_wire.specs.declared.set.TheConstants.{SET_HEADER_LENGTH}
use Rattle.ipfix_elements.specs.Cells.{cell_octets}
use Rattle.ipfix_elements.specs.declared.cell.Cell.{Cell}
use Rattle.ipfix_elements.specs.declared.kind.Kind.{Kind}
use Rattle.flow_table.specs.Plans.{PlanValue}
use Rattle.flow_table.specs.SameTables.{RowValue}
use Rattle.flow_export.specs.declared.intervals.Intervals.{Intervals}
use Rattle.flow_export.specs.IpfixText.{data_message_in, row_octets_in, width_of}

-- a cell as wide as its kind says
abbrev pub wide_octets : Kind × Cell → List ℕ
wide_octets p = cell_octets p.1 (width_of p.0)

-- the cells of a key
abbrev pub cells_octets : List Kind → List Cell → List ℕ
cells_octets kinds cells = flat_map wide_octets (zip kinds cells)

-- rows one after another
abbrev pub octets_of_rows : Intervals → PlanValue → List RowValue → List ℕ
octets_of_rows intervals plan rows = flat_map (row_octets_in intervals plan) rows

-- octets that begin with the message of these rows, and end there
abbrev pub BeginsWithRows : Intervals → PlanValue → ℕ → ℕ → List RowValue → List ℕ → ℕ → Type 0
BeginsWithRows intervals plan time sequence rows octets end = take end octets ≡ data_message_in intervals plan time sequence rows

-- the headers of a message of one set, whose body has so many octets
abbrev pub headers_octets : ℕ → ℕ → ℕ → ℕ → List ℕ
headers_octets time sequence id body =
    header_octets (record { length = HEADER_LENGTH + SET_HEADER_LENGTH + body; export_time = time; sequence = sequence; domain = 0 }) ++ set_octets id body

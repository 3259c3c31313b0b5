-- A table as messages of IPFIX (RFC 7011): a template, and then the rows as its data records.
use Rattle.std.specs.Prelude.{ℕ, ◌+◌, ◌*◌, List, [], ◌∷◌, ◌++◌, length, map, take, drop, zip, flat_map}
use Rattle.std.specs.Int.{div_ceil}
use Rattle.std.specs.List.{range_with_len}
use Rattle.byteorder.specs.Endian.{big_bytes}
use Rattle.ipfix_wire.specs.MessageHeader.{header_octets}
use Rattle.ipfix_wire.specs.SetHeader.{set_octets}
use Rattle.ipfix_wire.specs.FieldSpecifier.{spec_octets}
use Rattle.ipfix_wire.specs.declared.header.TheConstants.{HEADER_LENGTH}
use Rattle.ipfix_wire.specs.declared.set.TheConstants.{FIRST_TEMPLATE_ID, SET_HEADER_LENGTH, TEMPLATE_SET_ID}
use Rattle.ipfix_wire.specs.declared.specifier.TheConstants.{VARIABLE_WIDTH}
use Rattle.ipfix_wire.specs.declared.specifier.ElementId.{ElementId}
use Rattle.ipfix_wire.specs.declared.specifier.Spec.{Spec}
use Rattle.ipfix_elements.specs.declared.cell.Cell.{Cell}
use Rattle.ipfix_elements.specs.declared.iana.TheConstants.{FLOW_START_MILLISECONDS, FLOW_END_MILLISECONDS, ORIGINAL_FLOWS_PRESENT}
use Rattle.ipfix_elements.specs.declared.kind.Kind.{Kind}
use Rattle.ipfix_elements.specs.declared.kind.Kind.TheVariants as kinds
use Rattle.ipfix_elements.specs.Cells.{cell_octets}
use Rattle.ipfix_elements.specs.Elements.{iana}
use Rattle.ipfix_elements.specs.Values.{octets_of}
use Rattle.ipfix_message.specs.Fields.{Field}
use Rattle.ipfix_message.specs.declared.record.Template.{Template}
use Rattle.flow_table.specs.declared.key.Key.{Key}
use Rattle.flow_table.specs.Plans.{PlanValue, exported_element, keys_and_kinds}
use Rattle.flow_table.specs.SameTables.{RowValue}
use Rattle.flow_export.specs.declared.ipfix_text.rows.TheConstants.{ROWS_A_MESSAGE}
use Rattle.flow_export.specs.Intervals.{first_in, last_in}
use Rattle.flow_export.specs.declared.intervals.Intervals.{Intervals}
use Rattle.flow_export.specs.declared.intervals.Intervals.TheVariants.{OfPlan}

-- ---- the template (RFC 7011, section 3.4.1)

abbrev pub spec : ElementId → ℕ → Spec
spec element width = record { element = element; width = width }

-- the octets of a kind's values, none left out (sections 6.1 and 6.2)
abbrev pub width_of : Kind → ℕ
width_of (kinds.Unsigned width) = octets_of width
width_of kinds.Ipv4 = 4
width_of kinds.Ipv6 = 16
width_of kinds.Mac = 6
width_of kinds.Seconds = 4
width_of kinds.Millis = 8
width_of kinds.Octets = VARIABLE_WIDTH

-- as wide as the key's kind says; a prefix is exported as an element of its own
abbrev pub key_spec : Key × Kind → Spec
key_spec p = spec (exported_element p.0) (width_of p.1)

-- times in milliseconds, sums and numbers of flows are numbers of 64 bits
abbrev pub number_width : ℕ
number_width = 8

abbrev pub number_spec : ElementId → Spec
number_spec element = spec element number_width

-- the interval (RFC 7015, section 7.1), the keys, the counters and the number of flows (section 7.2)
abbrev pub field_specs : PlanValue → List Spec
field_specs plan =
    number_spec (iana FLOW_START_MILLISECONDS) ∷ number_spec (iana FLOW_END_MILLISECONDS) ∷
    (map key_spec (keys_and_kinds plan) ++ (map number_spec plan.counters ++ number_spec (iana ORIGINAL_FLOWS_PRESENT) ∷ []))

abbrev pub template : PlanValue → Template
template plan = record { id = FIRST_TEMPLATE_ID; scope = 0; specs = field_specs plan }

abbrev pub template_octets : Template → List ℕ
template_octets t = big_bytes 2 t.id ++ (big_bytes 2 (length t.specs) ++ flat_map spec_octets t.specs)

-- ---- the rows (RFC 7011, sections 3.4.3 and 6.1)

abbrev pub field : ElementId → List ℕ → Field
field element octets = record { element = element; octets = octets }

abbrev pub number_octets : ℕ → List ℕ
number_octets n = big_bytes number_width n

abbrev pub number_field : ElementId × ℕ → Field
number_field p = field p.0 (number_octets p.1)

abbrev pub key_field : (Key × Kind) × Cell → Field
key_field p = field (exported_element p.0.0) (cell_octets p.1 (width_of p.0.1))

-- two times in milliseconds, a cell for each key, a sum for each counter, and a number of flows
abbrev pub fields_of : PlanValue → ℕ → ℕ → List Cell → List ℕ → ℕ → List Field
fields_of plan start end key sums flows =
    number_field (iana FLOW_START_MILLISECONDS, start) ∷ number_field (iana FLOW_END_MILLISECONDS, end) ∷
    (map key_field (zip (keys_and_kinds plan) key) ++ (map number_field (zip plan.counters sums) ++ number_field (iana ORIGINAL_FLOWS_PRESENT, flows) ∷ []))

-- those of a row: the first and the last millisecond of its interval, its key, its sums and its number of flows
abbrev pub row_fields_in : Intervals → PlanValue → RowValue → List Field
row_fields_in intervals plan row = fields_of plan (first_in intervals plan row.interval) (last_in intervals plan row.interval) row.key row.sums row.flows

-- a row is its fields, one after another
abbrev pub row_octets_in : Intervals → PlanValue → RowValue → List ℕ
row_octets_in intervals plan row = flat_map (λ f. f.octets) (row_fields_in intervals plan row)

-- those of a row of a plan's table
abbrev pub row_fields : PlanValue → RowValue → List Field
row_fields = row_fields_in OfPlan

abbrev pub row_octets : PlanValue → RowValue → List ℕ
row_octets = row_octets_in OfPlan

-- ---- messages (sections 3.1 and 3.3)

-- a message of one set, in domain 0
abbrev pub message : ℕ → ℕ → ℕ → List ℕ → List ℕ
message time sequence id body =
    header_octets (record { length = HEADER_LENGTH + SET_HEADER_LENGTH + length body; export_time = time; sequence = sequence; domain = 0 })
    ++ (set_octets id (length body) ++ body)

abbrev pub template_message : PlanValue → ℕ → List ℕ
template_message plan time = message time 0 TEMPLATE_SET_ID (template_octets (template plan))

abbrev pub data_message_in : Intervals → PlanValue → ℕ → ℕ → List RowValue → List ℕ
data_message_in intervals plan time sequence rows = message time sequence FIRST_TEMPLATE_ID (flat_map (row_octets_in intervals plan) rows)

-- the rows of message i, counted from 0: a hundred, or those that are left
abbrev pub rows_of_message : List RowValue → ℕ → List RowValue
rows_of_message rows i = take ROWS_A_MESSAGE (drop (ROWS_A_MESSAGE * i) rows)

-- how many messages rows fill, the last of them perhaps in part
abbrev pub message_count : List RowValue → ℕ
message_count rows = div_ceil (length rows) ROWS_A_MESSAGE

-- the message of rows i: its sequence number counts the rows before it
abbrev pub message_of_rows_in : Intervals → PlanValue → ℕ → List RowValue → ℕ → List ℕ
message_of_rows_in intervals plan time rows i = data_message_in intervals plan time (ROWS_A_MESSAGE * i) (rows_of_message rows i)

-- the template, and then the rows, so many in a message
abbrev pub ipfix_text_in : Intervals → PlanValue → ℕ → List RowValue → List ℕ
ipfix_text_in intervals plan time rows =
    template_message plan time ++ flat_map (message_of_rows_in intervals plan time rows) (range_with_len 0 (message_count rows))

-- those of a plan's table
abbrev pub data_message : PlanValue → ℕ → ℕ → List RowValue → List ℕ
data_message = data_message_in OfPlan

abbrev pub message_of_rows : PlanValue → ℕ → List RowValue → ℕ → List ℕ
message_of_rows = message_of_rows_in OfPlan

abbrev pub ipfix_text : PlanValue → ℕ → List RowValue → List ℕ
ipfix_text = ipfix_text_in OfPlan

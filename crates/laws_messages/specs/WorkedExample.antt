-- A message of 71 octets, and what it is read as by hand: a template, a record of it, and padding. The tests have its octets as
-- ONE_FLOW_WITH_SET_PADDING.
use Rattle.std.specs.Prelude.{ℕ, List, [], ◌∷◌, ◌++◌}
use Rattle.ipfix_wire.specs.declared.header.Header.{Header}
use Rattle.ipfix_wire.specs.declared.specifier.Spec.{Spec}
use Rattle.ipfix_message.specs.Fields.{Field}
use Rattle.ipfix_message.specs.Domains.{Message}
use Rattle.ipfix_message.specs.declared.record.DataRecord.{DataRecord}
use Rattle.ipfix_message.specs.declared.record.Template.{Template}
use Rattle.ipfix_message.specs.declared.template_record.Event.TheVariants.{Define}

-- ---- its octets

-- the header: version 10, 71 octets, export time 1,700,000,000, sequence number 0, domain 1
abbrev pub header_text : List ℕ
header_text = 0 ∷ 10 ∷ 0 ∷ 71 ∷ 101 ∷ 83 ∷ 241 ∷ 0 ∷ 0 ∷ 0 ∷ 0 ∷ 0 ∷ 0 ∷ 0 ∷ 0 ∷ 1 ∷ []

-- a template set of 24 octets
abbrev pub template_set_text : List ℕ
template_set_text = 0 ∷ 2 ∷ 0 ∷ 24 ∷ []

-- template 256 with four fields: elements 152 and 153 in 8 octets, 8 and 1 in 4
abbrev pub template_text : List ℕ
template_text = 1 ∷ 0 ∷ 0 ∷ 4 ∷ 0 ∷ 152 ∷ 0 ∷ 8 ∷ 0 ∷ 153 ∷ 0 ∷ 8 ∷ 0 ∷ 8 ∷ 0 ∷ 4 ∷ 0 ∷ 1 ∷ 0 ∷ 4 ∷ []

-- a data set of template 256, of 31 octets
abbrev pub data_set_text : List ℕ
data_set_text = 1 ∷ 0 ∷ 0 ∷ 31 ∷ []

-- its record: 1,000 ms,
abbrev pub start_octets : List ℕ
start_octets = 0 ∷ 0 ∷ 0 ∷ 0 ∷ 0 ∷ 0 ∷ 3 ∷ 232 ∷ []

-- 2,000 ms,
abbrev pub end_octets : List ℕ
end_octets = 0 ∷ 0 ∷ 0 ∷ 0 ∷ 0 ∷ 0 ∷ 7 ∷ 208 ∷ []

-- 192.0.2.1,
abbrev pub address_octets : List ℕ
address_octets = 192 ∷ 0 ∷ 2 ∷ 1 ∷ []

-- 1,500 octets
abbrev pub count_octets : List ℕ
count_octets = 0 ∷ 0 ∷ 5 ∷ 220 ∷ []

-- three octets of padding
abbrev pub padding_octets : List ℕ
padding_octets = 255 ∷ 255 ∷ 255 ∷ []

abbrev pub example_octets : List ℕ
example_octets = header_text ++ template_set_text ++ template_text ++ data_set_text ++ start_octets ++ end_octets ++ address_octets ++ count_octets ++ padding_octets

-- ---- what it is read as

abbrev pub spec : ℕ → ℕ → Spec
spec number width = record { element = record { pen = 0; number = number }; width = width }

abbrev pub example_template : Template
example_template = record { id = 256; scope = 0; specs = spec 152 8 ∷ spec 153 8 ∷ spec 8 4 ∷ spec 1 4 ∷ [] }

abbrev pub field : ℕ → List ℕ → Field
field number octets = record { element = record { pen = 0; number = number }; octets = octets }

abbrev pub example_fields : List Field
example_fields = field 152 start_octets ∷ field 153 end_octets ∷ field 8 address_octets ∷ field 1 count_octets ∷ []

abbrev pub example_header : Header
example_header = record { length = 71; export_time = 1700000000; sequence = 0; domain = 1 }

abbrev pub example_record : DataRecord
example_record = record { domain = 1; export_time = 1700000000; template = 256; scope = 0; fields = example_fields }

-- the template is in force in domain 1 then, and nothing was passed over
abbrev pub example_message : Message
example_message = record {
  header = example_header;
  decoding = record {
    events = Define example_template ∷ [];
    records = example_record ∷ [];
    passed_over = record { skipped_sets = 0; unknown_sets = 0; ignored_withdrawals = 0 };
  };
  domains = (1, Define example_template ∷ []) ∷ [];
}

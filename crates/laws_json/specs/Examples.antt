-- One flow of 1500 octets from 192.0.2.1: a record of it, a row, and what a reader has of their lines.
use Rattle.std.specs.Prelude.{ℕ, false, List, [], ◌∷◌, codes}
use Rattle.json.specs.Json.{Json, number, string, array, object, no_items, item, no_members, member}
use Rattle.ipfix_elements.specs.Elements.{iana}
use Rattle.ipfix_elements.specs.declared.cell.Cell.TheVariants.{Ipv4}
use Rattle.element_registry.specs.Registries.{Known}
use Rattle.element_registry.specs.declared.kind.ElementKind.TheVariants.{Text}
use Rattle.ipfix_message.specs.Fields.{Field}
use Rattle.ipfix_message.specs.declared.record.DataRecord.{DataRecord}
use Rattle.flow_table.specs.SameTables.{RowValue, row_value}

abbrev pub field : ℕ → List ℕ → Field
field id octets = record { element = iana id; octets = octets }

-- octetDeltaCount, packetDeltaCount, sourceIPv4Address, and a protocolIdentifier of two octets, which is none
abbrev pub one_record : DataRecord
one_record =
    record {
      domain = 1;
      template = 256;
      export_time = 1700000000;
      scope = 0;
      fields =
          field 1 (0 ∷ 31 ∷ 255 ∷ 255 ∷ 255 ∷ 255 ∷ 255 ∷ 255 ∷ []) ∷ field 2 (0 ∷ 32 ∷ 0 ∷ 0 ∷ 0 ∷ 0 ∷ 0 ∷ 0 ∷ []) ∷ field 8 (192 ∷ 0 ∷ 2 ∷ 1 ∷ []) ∷ field 4 (0 ∷ 6 ∷ []) ∷ [];
    }

abbrev pub record_text : List ℕ
record_text =
    codes "{\"domain\":1,\"template\":256,\"export_time\":1700000000,\"scope\":0,\"fields\":[{\"name\":\"octetDeltaCount\",\"value\":9007199254740991},{\"name\":\"packetDeltaCount\",\"value\":\"9007199254740992\"},{\"name\":\"sourceIPv4Address\",\"value\":\"192.0.2.1\"},{\"name\":\"protocolIdentifier\",\"value\":\"?0x0006\"}]}"

abbrev named : List ℕ → Json → Json
named name value = object (member (codes "name") (string name) (member (codes "value") value no_members))

abbrev pub record_json : Json
record_json =
    object (member (codes "domain") (number (codes "1")) (member (codes "template") (number (codes "256"))
    (member (codes "export_time") (number (codes "1700000000")) (member (codes "scope") (number (codes "0"))
    (member (codes "fields") (array
    (item (named (codes "octetDeltaCount") (number (codes "9007199254740991")))
    (item (named (codes "packetDeltaCount") (string (codes "9007199254740992")))
    (item (named (codes "sourceIPv4Address") (string (codes "192.0.2.1")))
    (item (named (codes "protocolIdentifier") (string (codes "?0x0006"))) no_items))))) no_members)))))

abbrev pub one_row : RowValue
one_row = row_value 0 (Ipv4 (192 ∷ 0 ∷ 2 ∷ 1 ∷ []) ∷ []) (1500 ∷ []) 1

abbrev pub row_text : List ℕ
row_text = codes "{\"start\":0,\"end\":59999,\"sourceIPv4Address\":\"192.0.2.1\",\"octetDeltaCount\":1500,\"flows\":1}"

abbrev pub row_json : Json
row_json =
    object (member (codes "start") (number (codes "0")) (member (codes "end") (number (codes "59999"))
    (member (codes "sourceIPv4Address") (string (codes "192.0.2.1"))
    (member (codes "octetDeltaCount") (number (codes "1500")) (member (codes "flows") (number (codes "1")) no_members)))))

-- ---- a string of an element that a file says

abbrev pub site : Known
site = record { element = record { pen = 32473; number = 1 }; name = codes "e32473.site"; kind = Text; is_delta = false }

-- a newline, a quotation mark, é and U+1F600, which has two units of UTF-16
abbrev site_octets : List ℕ
site_octets = 97 ∷ 10 ∷ 34 ∷ 195 ∷ 169 ∷ 240 ∷ 159 ∷ 152 ∷ 128 ∷ []

abbrev pub one_string : DataRecord
one_string = record { domain = 7; template = 300; export_time = 1700000000; scope = 0; fields = record { element = site.element; octets = site_octets } ∷ [] }

abbrev pub string_text : List ℕ
string_text = codes "{\"domain\":7,\"template\":300,\"export_time\":1700000000,\"scope\":0,\"fields\":[{\"name\":\"e32473.site\",\"value\":\"a\\u000a\\u0022\\u00e9\\ud83d\\ude00\"}]}"

abbrev pub string_json : Json
string_json =
    object (member (codes "domain") (number (codes "7")) (member (codes "template") (number (codes "300"))
    (member (codes "export_time") (number (codes "1700000000")) (member (codes "scope") (number (codes "0"))
    (member (codes "fields") (array (item (named (codes "e32473.site") (string site_octets)) no_items)) no_members)))))

-- ---- texts that are no values of JSON (RFC 8259, sections 4 and 7; half of a pair of units spells no character)

abbrev pub newline_in_a_string : List ℕ
newline_in_a_string = codes "{\"name\":\"a\nb\"}"

abbrev pub comma_left_out : List ℕ
comma_left_out = codes "{\"domain\":7\"template\":300}"

abbrev pub half_of_a_pair : List ℕ
half_of_a_pair = codes "{\"name\":\"\\ud83d\"}"

abbrev pub brace_left_out : List ℕ
brace_left_out = codes "{\"domain\":7"

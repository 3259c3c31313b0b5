-- Data records and the body of a data set (RFC 7011, sections 3.4.3 and 7).
pub use Rattle.ipfix_message.specs.SpelledFields.{Spells, least}
use Rattle.std.specs.Prelude.{◌≡◌, ℕ, ◌<◌, nat_lt, if◌then◌else◌, List, ◌++◌, length, Result, Ok, Err, All}
use Rattle.ipfix_wire.specs.declared.specifier.Spec.{Spec}
use Rattle.ipfix_message.specs.declared.fault.MessageFault.{MessageFault}
use Rattle.ipfix_message.specs.declared.fault.MessageFault.TheVariants.{RecordCut}
use Rattle.ipfix_wire.specs.declared.header.Header.{Header}
use Rattle.ipfix_message.specs.Fields.{Field}
use Rattle.ipfix_message.specs.SpelledFields.{fields_at}
use Rattle.ipfix_message.specs.declared.record.DataRecord.{DataRecord}
use Rattle.ipfix_message.specs.declared.record.Template.{Template}
use Rattle.ipfix_wire.specs.InTurn.{InTurn, Parts, parts_of}

-- ---- what spells the body of a data set

-- the body of a data set: records in turn, and then fewer octets than a record has
pub record IsBody (specs : List Spec) (records : List (List Field)) (w : List ℕ) : Type 0 where
  pub octets : List ℕ
  pub padding : List ℕ
  pub whole : w ≡ octets ++ padding
  pub spelled : InTurn (Spells specs) records octets
  pub short : length padding < least specs

-- ---- reading them

-- the records of a body, if what is left is padding: fewer octets than a record has
abbrev pub finished : ℕ → Parts (List Field) → Result (List (List Field)) MessageFault
finished limit parts = if nat_lt (length parts.rest) limit then Ok parts.items else Err RecordCut

-- all records of a body
unfoldable pub records_of_body : List Spec → List ℕ → Result (List (List Field)) MessageFault
records_of_body specs w = finished (least specs) (parts_of (fields_at specs) w)

-- a data record: its fields, with the domain and the time of its message and the id and scope of its template
abbrev pub record_of : Header → Template → List Field → DataRecord
record_of h t fields = record { domain = h.domain; export_time = h.export_time; template = t.id; scope = t.scope; fields = fields }

-- all octets of all fields are octets
abbrev pub HasOctets : DataRecord → Type 0
HasOctets r = All (λ field. All (λ b. b < 256) field.octets) r.fields

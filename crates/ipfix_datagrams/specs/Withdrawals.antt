-- Messages that withdraw templates (RFC 7011, section 8.1).
use Rattle.std.specs.Prelude.{ℕ, ◌+◌, ◌^◌, ◌<◌, ◌≤◌, List, ◌++◌, length, flat_map, if◌then◌else◌}
use Rattle.byteorder.specs.Endian.{big_bytes}
use Rattle.ipfix_wire.specs.MessageHeader.{header_octets}
use Rattle.ipfix_wire.specs.SetHeader.{set_octets}
use Rattle.ipfix_wire.specs.declared.header.Header.{Header}
use Rattle.ipfix_wire.specs.declared.header.TheConstants.{HEADER_LENGTH}
use Rattle.ipfix_wire.specs.declared.set.TheConstants.{FIRST_TEMPLATE_ID}
use Rattle.ipfix_message.specs.WrittenTemplates.{set_id_of}
use Rattle.ipfix_message.specs.declared.template_record.TemplateKind.{TemplateKind}
use Rattle.ipfix_message.specs.declared.template_record.TemplateKind.TheVariants.{Plain, Options}
use Rattle.ipfix_datagrams.specs.declared.withdrawn_template.WithdrawnTemplate.{WithdrawnTemplate}

-- an id that templates have
abbrev pub HasTemplateId : WithdrawnTemplate → Type 0
HasTemplateId w = (FIRST_TEMPLATE_ID ≤ w.id) × (w.id < 2 ^ 16)

-- of which kind it is
abbrev pub kind_withdrawn : WithdrawnTemplate → TemplateKind
kind_withdrawn w = if w.is_options then Options else Plain

-- a template record without fields
abbrev pub withdrawal_record : ℕ → List ℕ
withdrawal_record id = big_bytes 2 id ++ big_bytes 2 0

-- a set of this record alone
abbrev pub withdrawal_set : TemplateKind → ℕ → List ℕ
withdrawal_set kind id = set_octets (set_id_of kind) 4 ++ withdrawal_record id

-- one set after another
abbrev pub withdrawal_sets : List WithdrawnTemplate → List ℕ
withdrawal_sets ws = flat_map (λ w. withdrawal_set (kind_withdrawn w) w.id) ws

-- a message of them, with the export time, the sequence number and the domain of a header
abbrev pub withdrawal_header : Header → List WithdrawnTemplate → Header
withdrawal_header h ws = record h { length = HEADER_LENGTH + length (withdrawal_sets ws) }

abbrev pub withdrawal_message : Header → List WithdrawnTemplate → List ℕ
withdrawal_message h ws = header_octets (withdrawal_header h ws) ++ withdrawal_sets ws

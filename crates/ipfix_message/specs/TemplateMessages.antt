-- Messages in which templates are written again (RFC 7011, sections 3.1 and 3.4).
use Rattle.std.specs.Prelude.{ℕ, ◌+◌, ◌^◌, ◌<◌, List, [], ◌∷◌, ◌++◌, length, flat_map}
use Rattle.ipfix_wire.specs.MessageHeader.{header_octets}
use Rattle.ipfix_wire.specs.declared.header.Header.{Header}
use Rattle.ipfix_wire.specs.declared.header.TheConstants.{HEADER_LENGTH}
use Rattle.ipfix_message.specs.WrittenTemplates.{template_set}
use Rattle.ipfix_message.specs.declared.record.Template.{Template}
use Rattle.ipfix_message.specs.declared.stamp.Stamp.{Stamp}

-- a stamp that a header can say
pub record IsStamp (s : Stamp) : Type 0 where
  pub export_time : s.export_time < 2 ^ 32
  pub sequence : s.sequence < 2 ^ 32
  pub domain : s.domain < 2 ^ 32

-- templates, each in a set of its own
abbrev pub sets_octets : List Template → List ℕ
sets_octets ts = flat_map template_set ts

-- a header with this stamp, of a message that has so many octets after it
abbrev pub stamped : Stamp → ℕ → Header
stamped s n = record { length = HEADER_LENGTH + n; export_time = s.export_time; sequence = s.sequence; domain = s.domain }

-- a message of templates, each in a set of its own
abbrev pub templates_message : Stamp → List Template → List ℕ
templates_message s ts = header_octets (stamped s (length (sets_octets ts))) ++ sets_octets ts

-- a message of only one template
abbrev pub message_of_template : Stamp → Template → List ℕ
message_of_template s t = templates_message s (t ∷ [])

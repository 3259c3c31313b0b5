-- Templates written again at the head of a file, as messages without records (RFC 7011, section 8; RFC 5655, section 6).
unfoldable pub use Rattle.ipfix_message.specs.WrittenTemplates.{template_octets}
pub use Rattle.ipfix_message.specs.WrittenTemplates.{kind_of, template_set, IsSpec, IsTemplate}
pub use Rattle.ipfix_message.specs.TemplateMessages.{IsStamp, sets_octets, stamped, templates_message}
use Rattle.std.specs.Prelude.{◌≡◌, ◌+◌, ◌^◌, ◌<◌, ℕ, List, [], ◌∷◌, length, map, flat_map, All}
use Rattle.ipfix_wire.specs.declared.header.TheConstants.{HEADER_LENGTH}
use Rattle.ipfix_message.specs.declared.record.Template.{Template}
use Rattle.ipfix_message.specs.declared.stamp.Stamp.{Stamp}

-- ---- a preamble

-- one message or more, in which these templates stand in turn
pub record IsPreamble (s : Stamp) (ts : List Template) (ms : List (List ℕ)) : Type 0 where
  pub first : List Template
  pub others : List (List Template)
  pub whole : ts ≡ flat_map (λ part. part) (first ∷ others)
  pub fit : All (λ part. HEADER_LENGTH + length (sets_octets part) < 2 ^ 16) (first ∷ others)
  pub are : ms ≡ map (templates_message s) (first ∷ others)

-- the preamble that is written: a message without sets, and then one for each template
abbrev pub preamble : Stamp → List Template → List (List ℕ)
preamble s ts = templates_message s [] ∷ map (λ t. templates_message s (t ∷ [])) ts

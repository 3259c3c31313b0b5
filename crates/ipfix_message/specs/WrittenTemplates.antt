-- Templates that can be written again, and the octets that are written (RFC 7011, sections 3.4.1 and 3.4.2).
use Rattle.std.specs.Prelude.{◌≡◌, ℕ, ◌+◌, ◌^◌, ◌<◌, ◌≤◌, ◌==◌, if◌then◌else◌, List, [], ◌++◌, length, flat_map, All}
use Rattle.byteorder.specs.Endian.{big_bytes}
use Rattle.ipfix_wire.specs.SetHeader.{set_octets}
use Rattle.ipfix_wire.specs.FieldSpecifier.{spec_octets}
use Rattle.ipfix_wire.specs.declared.header.TheConstants.{HEADER_LENGTH}
use Rattle.ipfix_wire.specs.declared.set.TheConstants.{TEMPLATE_SET_ID, OPTIONS_TEMPLATE_SET_ID, FIRST_TEMPLATE_ID}
use Rattle.ipfix_wire.specs.declared.specifier.Spec.{Spec}
use Rattle.ipfix_message.specs.SpelledFields.{least}
use Rattle.ipfix_message.specs.declared.record.Template.{Template}
use Rattle.ipfix_message.specs.declared.template_record.TemplateKind.{TemplateKind}
use Rattle.ipfix_message.specs.declared.template_record.TemplateKind.TheVariants.{Plain, Options}

-- ---- the two kinds

-- the id of the sets that bring templates of a kind
abbrev pub set_id_of : TemplateKind → ℕ
set_id_of Plain = TEMPLATE_SET_ID
set_id_of Options = OPTIONS_TEMPLATE_SET_ID

-- the count of scope fields: at least one and at most all; a plain template has none
abbrev pub IsScope : TemplateKind → ℕ → ℕ → Type 0
IsScope Plain scope count = scope ≡ 0
IsScope Options scope count = (1 ≤ scope) × (scope ≤ count)

-- an options template record writes that count, a plain one does not
abbrev pub scope_octets : TemplateKind → ℕ → List ℕ
scope_octets Plain scope = []
scope_octets Options scope = big_bytes 2 scope

-- octets that are written, and what follows them, have room where these were read
abbrev pub HaveRoom : List ℕ → List ℕ → List ℕ → Type 0
HaveRoom octets rest w = length octets + length rest ≤ length w

-- ---- a template as octets

-- an options template has scope fields
abbrev pub kind_of : Template → TemplateKind
kind_of t = if t.scope == 0 then Plain else Options

-- the spelling that is written
unfoldable pub template_octets : Template → List ℕ
template_octets t = big_bytes 2 t.id ++ (big_bytes 2 (length t.specs) ++ (scope_octets (kind_of t) t.scope ++ flat_map spec_octets t.specs))

-- a set of only this template
abbrev pub template_set : Template → List ℕ
template_set t = set_octets (set_id_of (kind_of t)) (length (template_octets t)) ++ template_octets t

-- a field specifier that can be written
pub record IsSpec (s : Spec) : Type 0 where
  pub pen : s.element.pen < 2 ^ 32
  pub number : s.element.number < 2 ^ 15
  pub width : s.width < 2 ^ 16

-- a template that can be written, and of whose octets a set has room in a message
pub record IsTemplate (t : Template) : Type 0 where
  pub lowest : FIRST_TEMPLATE_ID ≤ t.id
  pub highest : t.id < 2 ^ 16
  pub some : 1 ≤ length t.specs
  pub many : length t.specs < 2 ^ 16
  pub scoped : IsScope (kind_of t) t.scope (length t.specs)
  pub positive : 0 < least t.specs
  pub specs : All IsSpec t.specs
  pub fits : HEADER_LENGTH + length (template_set t) < 2 ^ 16

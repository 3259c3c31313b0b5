-- The names of types, and the kinds that their fields are read by (RFC 7012, section 3.1).
use Rattle.std.specs.Prelude.{ℕ, List, [], ◌∷◌, find, codes, Option, option_map}
use Rattle.std.specs.Str.{bytes_eq}
use Rattle.ipfix_elements.specs.declared.kind.Kind.TheVariants as kinds
use Rattle.ipfix_elements.specs.declared.kind.Width.TheVariants.{One, Two, Four, Eight}
use Rattle.element_registry.specs.declared.kind.ElementKind.{ElementKind}
use Rattle.element_registry.specs.declared.kind.ElementKind.TheVariants.{Plain, Boolean, Signed, Micros, Nanos, Text}
use Rattle.element_registry.specs.declared.types.DataType as kept

pub record DataType : Type 0 where
  pub name : List ℕ
  pub kind : ElementKind

abbrev pub named : List ℕ → ElementKind → DataType
named name kind = record { name = name; kind = kind }

abbrev pub shown_type : kept.DataType → DataType
shown_type t = named t.name.now t.kind

-- lists, and numbers with a point, are shown as octets
unfoldable pub types : List DataType
types =
    named (codes "unsigned8") (Plain (kinds.Unsigned One)) ∷
    named (codes "unsigned16") (Plain (kinds.Unsigned Two)) ∷
    named (codes "unsigned32") (Plain (kinds.Unsigned Four)) ∷
    named (codes "unsigned64") (Plain (kinds.Unsigned Eight)) ∷
    named (codes "signed8") (Signed One) ∷
    named (codes "signed16") (Signed Two) ∷
    named (codes "signed32") (Signed Four) ∷
    named (codes "signed64") (Signed Eight) ∷
    named (codes "boolean") Boolean ∷
    named (codes "ipv4Address") (Plain kinds.Ipv4) ∷
    named (codes "ipv6Address") (Plain kinds.Ipv6) ∷
    named (codes "macAddress") (Plain kinds.Mac) ∷
    named (codes "string") Text ∷
    named (codes "dateTimeSeconds") (Plain kinds.Seconds) ∷
    named (codes "dateTimeMilliseconds") (Plain kinds.Millis) ∷
    named (codes "dateTimeMicroseconds") Micros ∷
    named (codes "dateTimeNanoseconds") Nanos ∷
    named (codes "octetArray") (Plain kinds.Octets) ∷
    named (codes "basicList") (Plain kinds.Octets) ∷
    named (codes "subTemplateList") (Plain kinds.Octets) ∷
    named (codes "subTemplateMultiList") (Plain kinds.Octets) ∷
    named (codes "float32") (Plain kinds.Octets) ∷
    named (codes "float64") (Plain kinds.Octets) ∷
    []

-- the kind of the first of these that has the name
abbrev pub kind_among : List DataType → List ℕ → Option ElementKind
kind_among ts text = option_map (λ t. t.kind) (find (λ t. bytes_eq t.name text) ts)

-- the kind of a type's name, if it is known
abbrev pub kind_named : List ℕ → Option ElementKind
kind_named text = kind_among types text

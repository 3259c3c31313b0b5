-- The elements that are known, as they are listed.
use Rattle.std.specs.Prelude.{ℕ, List, ◌++◌, map, codes}
use Rattle.std.specs.Option.{option_to_list}
use Rattle.ipfix_wire.specs.declared.specifier.ElementId.{ElementId}
use Rattle.ipfix_elements.specs.declared.kind.Kind.TheVariants as kinds
use Rattle.ipfix_elements.specs.declared.kind.Width.{Width}
use Rattle.ipfix_elements.specs.declared.kind.Width.TheVariants.{One, Two, Four, Eight}
use Rattle.ipfix_elements.specs.Elements.{Entry, elements, entry_of, iana, listed}
use Rattle.element_registry.specs.Registries.{Known, shown}
use Rattle.element_registry.specs.declared.entry.Entry as kept
use Rattle.element_registry.specs.declared.kind.ElementKind.{ElementKind}
use Rattle.element_registry.specs.declared.kind.ElementKind.TheVariants.{Plain, Boolean, Signed, Micros, Nanos, Text}

-- an element, its name, and how its fields are read
pub record Listed : Type 0 where
  pub element : ElementId
  pub name : List ℕ
  pub kind : ElementKind

abbrev pub listed_as : ElementId → List ℕ → ElementKind → Listed
listed_as element name kind = record { element = element; name = name; kind = kind }

abbrev pub of_entry : Entry → Listed
of_entry r = listed_as (listed r) r.name (Plain r.kind)

abbrev pub of_known : Known → Listed
of_known k = listed_as k.element k.name k.kind

-- the built-in elements, by their numbers
abbrev pub built_in : List Listed
built_in = map of_entry elements

-- the one of a number, if there is one
abbrev pub built_in_at : ℕ → List Listed
built_in_at number = map of_entry (option_to_list (entry_of (iana number)))

-- those of files
abbrev pub of_files : List kept.Entry → List Listed
of_files entries = map (λ k. of_known (shown k)) entries

-- the built-in elements, and then those of files as they stand
abbrev pub all_listed : List Known → List Listed
all_listed known = built_in ++ map of_known known

-- the types of numbers (RFC 7012, section 3.1)
abbrev pub unsigned_name : Width → List ℕ
unsigned_name One = codes "unsigned8"
unsigned_name Two = codes "unsigned16"
unsigned_name Four = codes "unsigned32"
unsigned_name Eight = codes "unsigned64"

abbrev pub signed_name : Width → List ℕ
signed_name One = codes "signed8"
signed_name Two = codes "signed16"
signed_name Four = codes "signed32"
signed_name Eight = codes "signed64"

-- the type that a kind is read as; each type that has no kind of its own is octets
abbrev pub type_name : ElementKind → List ℕ
type_name (Plain (kinds.Unsigned width)) = unsigned_name width
type_name (Plain kinds.Ipv4) = codes "ipv4Address"
type_name (Plain kinds.Ipv6) = codes "ipv6Address"
type_name (Plain kinds.Mac) = codes "macAddress"
type_name (Plain kinds.Seconds) = codes "dateTimeSeconds"
type_name (Plain kinds.Millis) = codes "dateTimeMilliseconds"
type_name (Plain kinds.Octets) = codes "octets"
type_name Boolean = codes "boolean"
type_name (Signed width) = signed_name width
type_name Micros = codes "dateTimeMicroseconds"
type_name Nanos = codes "dateTimeNanoseconds"
type_name Text = codes "string"

-- The elements of keys, known beside others by the texts of the keys.
use Rattle.std.specs.Prelude.{List, [], ◌∷◌, false, Result, Ok}
use Rattle.ipfix_elements.specs.declared.kind.Kind.TheVariants as kinds
use Rattle.ipfix_elements.specs.declared.kind.Width.TheVariants.{Four}
use Rattle.element_registry.specs.declared.kind.ElementKind.TheVariants.{Plain}
use Rattle.element_registry.specs.Faults.{Read, Gives}
use Rattle.element_registry.specs.declared.fault.ElementsFault.{ElementsFault}
use Rattle.element_registry.specs.Files.{with_entry}
use Rattle.element_registry.specs.Registries.{Known}
use Rattle.element_registry.specs.Rows.{and_then}
use Rattle.flow_plan_fields.specs.Keys.{KeyValue, element_of}

-- a number of 32 bits, under the number of the key's element
abbrev pub known_key : KeyValue → Known
known_key k = record { element = element_of k.element.number; name = k.text; kind = Plain (kinds.Unsigned Four); is_delta = false }

-- one more key
abbrev pub with_map_key : List Known → KeyValue → Read (List Known)
with_map_key known k = with_entry known (known_key k)

-- key after key
abbrev pub with_keys : List Known → List KeyValue → Read (List Known)
with_keys known [] = Ok known
with_keys known (k ∷ keys) = and_then (with_map_key known k) (λ more. with_keys more keys)

-- what is known with them, or the fault of the first that can't be
abbrev pub AddsKeys : List Known → List KeyValue → Result (List Known) ElementsFault → Type 0
AddsKeys known keys result = Gives (λ more. more) result (with_keys known keys)

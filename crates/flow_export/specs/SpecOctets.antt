-- The octets of a template: its id, and the field specifiers of keys and of counters.
use Rattle.std.specs.Prelude.{ℕ, List, ◌++◌, flat_map}
use Rattle.byteorder.specs.Endian.{big_bytes}
use Rattle.ipfix_wire.specs.FieldSpecifier.{spec_octets}
use Rattle.ipfix_wire.specs.declared.set.TheConstants.{FIRST_TEMPLATE_ID}
use Rattle.ipfix_wire.specs.declared.specifier.ElementId.{ElementId}
use Rattle.ipfix_elements.specs.declared.kind.Kind.{Kind}
use Rattle.flow_table.specs.declared.key.Key.{Key}
use Rattle.flow_table.specs.Plans.{PlanValue}
use Rattle.flow_export.specs.IpfixText.{key_spec, number_spec, template, template_octets}

abbrev pub key_octets : Key × Kind → List ℕ
key_octets key = spec_octets (key_spec key)

abbrev pub keys_octets : List (Key × Kind) → List ℕ
keys_octets keys = flat_map key_octets keys

abbrev pub counter_octets : ElementId → List ℕ
counter_octets counter = spec_octets (number_spec counter)

abbrev pub counters_octets : List ElementId → List ℕ
counters_octets counters = flat_map counter_octets counters

-- the id of the template, and how many fields it has
abbrev pub ids_octets : ℕ → List ℕ
ids_octets fields = big_bytes 2 FIRST_TEMPLATE_ID ++ big_bytes 2 fields

-- the template record of a plan
abbrev pub octets_of_template : PlanValue → List ℕ
octets_of_template plan = template_octets (template plan)

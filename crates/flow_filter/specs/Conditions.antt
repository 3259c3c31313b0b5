-- Which records pass.
use Rattle.std.specs.Prelude.{◌==◌, ◌&&◌, ◌||◌, not, nat_le, nat_lt, ℕ, Bool, false, List}
use Rattle.std.specs.List.{list_all, list_any}
use Rattle.std.specs.Option.{option_map_or}
use Rattle.ipfix_elements.specs.declared.kind.Kind.{Kind}
use Rattle.ipfix_message.specs.declared.record.DataRecord.{DataRecord}
use Rattle.ipfix_message.specs.Fields.{octets_of}
use Rattle.network_prefixes.specs.Addresses.{first_bits}
use Rattle.network_prefixes.specs.declared.address_bits.AddressBits.{AddressBits}
use Rattle.network_prefixes.specs.declared.prefix.Prefix.{Prefix}
use Rattle.flow_filter.specs.declared.condition.Condition.{Condition}
use Rattle.flow_filter.specs.declared.condition.Side.{Side}
use Rattle.flow_filter.specs.declared.condition.Side.TheVariants.{In, NotIn}
use Rattle.flow_filter.specs.declared.filter.Filter.{Filter}
use Rattle.flow_filter.specs.declared.value.Value.{Value}
use Rattle.flow_filter.specs.declared.value.Value.TheVariants.{Number, Address}
use Rattle.flow_filter.specs.declared.value_range.ValueRange.{ValueRange}
use Rattle.flow_filter.specs.declared.value_range.ValueRange.TheVariants.{Numbers, Network}
use Rattle.flow_filter.specs.Values.{value_in}

-- an address is of the network's family and begins with its first bits
abbrev pub covers : Prefix → AddressBits → Bool
covers network address = (address.width == network.address.width) && (first_bits address network.length == first_bits network.address network.length)

-- both ends of a range are in it
abbrev pub has : ValueRange → Value → Bool
has (Numbers first last) (Number n) = nat_le first n && nat_le n last
has (Network network) (Address address) = covers network address
has range value = false

-- a value is among what some texts say
abbrev pub is_among : List ValueRange → Value → Bool
is_among ranges value = list_any (λ range. has range value) ranges

-- the value that octets are is among them: not if they are none
abbrev pub is_value_among : List ValueRange → Kind → List ℕ → Bool
is_value_among ranges kind octets = option_map_or (is_among ranges) (value_in kind octets) false

-- one of the condition's texts says the record's value: not if there is none
abbrev pub is_said : Condition → DataRecord → Bool
is_said condition r = option_map_or (is_value_among condition.ranges.items condition.kind) (octets_of condition.element r.fields) false

-- it has to be said by one, or by none
abbrev pub on_side : Side → Bool → Bool
on_side In said = said
on_side NotIn said = not said

abbrev pub holds : DataRecord → Condition → Bool
holds r condition = on_side condition.side (is_said condition r)

-- all conditions hold
abbrev pub passes : Filter → DataRecord → Bool
passes filter r = list_all (holds r) filter.conditions.items

-- records of options templates are counted, whatever they hold (RFC 7011, section 3.4.2), and others if they pass
abbrev pub is_counted : Filter → DataRecord → Bool
is_counted filter r = nat_lt 0 r.scope || passes filter r

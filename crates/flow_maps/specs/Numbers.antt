-- The numbers that maps give for the addresses of a record, as fields that follow its others.
use Rattle.std.specs.Prelude.{ℕ, not, List, [], ◌∷◌, ◌++◌, filter, Option, Some, None, option_and_then}
use Rattle.std.specs.Borrow.{Bor}
use Rattle.std.specs.Int.{w32, to_be_bytes}
use Rattle.std.specs.List.{slice_get}
use Rattle.std.specs.Option.{option_map_or, option_or}
use Rattle.ipfix_wire.specs.declared.specifier.ElementId.{ElementId}
use Rattle.ipfix_message.specs.Fields.{Field, octets_of, same_element}
use Rattle.network_prefixes.specs.declared.address_bits.AddressBits.{AddressBits}
use Rattle.prefix_numbers.specs.Maps.{number_of}
use Rattle.prefix_numbers.specs.declared.prefix_map.PrefixMap.{PrefixMap}
use Rattle.flow_filter.specs.Values.{value_in}
use Rattle.flow_filter.specs.declared.value.Value.{Value}
use Rattle.flow_filter.specs.declared.value.Value.TheVariants.{Number, Address}
use Rattle.flow_maps.specs.declared.map_key.AddressElement.{AddressElement}
use Rattle.flow_maps.specs.declared.map_key.MapKey.{MapKey}
use Rattle.flow_maps.specs.declared.maps.Maps.{Maps}

-- ---- the address that is looked up

abbrev pub address_of : Value → Option AddressBits
address_of (Address address) = Some address
address_of (Number n) = None

-- the address in the first field of an element, if it is one
abbrev pub address_at : AddressElement → List Field → Option AddressBits
address_at e fields = option_and_then address_of (option_and_then (value_in e.kind) (octets_of e.element fields))

-- the first of some elements of which there is an address gives it
abbrev pub first_address : List AddressElement → List Field → Option AddressBits
first_address [] fields = None
first_address (e ∷ es) fields = option_or (address_at e fields) (first_address es fields)

-- ---- its number

-- that of the map at a place, and 0 if none is there
abbrev pub number_at : List PrefixMap → ℕ → AddressBits → ℕ
number_at maps place address = option_map_or (λ m. number_of m address) (slice_get maps place) 0

abbrev pub number_field : ElementId → ℕ → List Field
number_field element number = record { element = element; octets = to_be_bytes w32 number } ∷ []

-- the number of a key, in 4 octets; where no address is there is none
abbrev pub numbers_of : List PrefixMap → MapKey → List Field → List Field
numbers_of maps key fields = option_map_or (λ address. number_field key.element (number_at maps key.map address)) (first_address key.addresses.items fields) []

-- ---- the whole

-- the fields but for those of an element
abbrev pub without : ElementId → List Field → List Field
without element fields = filter (λ f. not (same_element f.element element)) fields

-- no exporter can say the number: what it says of the key's element is removed, and the number stands after the others
abbrev pub with_number : List PrefixMap → MapKey → List Field → List Field
with_number maps key fields = without key.element fields ++ numbers_of maps key (without key.element fields)

-- key after key
abbrev pub with_each : List PrefixMap → List MapKey → List Field → List Field
with_each maps [] fields = fields
with_each maps (key ∷ keys) fields = with_each maps keys (with_number maps key fields)

abbrev pub with_numbers : Maps → List Field → List Field
with_numbers maps fields = with_each maps.maps.items maps.keys.items fields

-- with the numbers of maps, if there are maps
abbrev pub if_mapped : Option (Bor Maps) → List Field → List Field
if_mapped None fields = fields
if_mapped (Some maps) fields = with_numbers maps.now fields

-- Plans of an aggregation (RFC 7015, section 5), and what makes arguments no plan. Their elements are built in, or known
-- from files.
use Rattle.std.specs.Prelude.{◌≡◌, ℕ, ◌^◌, ◌==◌, ◌&&◌, ◌||◌, not, Bool, true, false, nat_lt, nat_le, List, [], ◌∷◌, ◌++◌, length, map, zip, Option, Some, None, is_some, is_none, unwrap_or, codes, if◌then◌else◌}
use Rattle.std.specs.List.{list_any, list_all}
use Rattle.std.specs.Str.{bytes_eq}
use Rattle.ipfix_wire.specs.declared.specifier.ElementId.{ElementId}
use Rattle.ipfix_elements.specs.declared.iana.TheConstants.{OCTET_DELTA_COUNT, PACKET_DELTA_COUNT, DELTA_FLOW_COUNT, POST_OCTET_DELTA_COUNT, POST_PACKET_DELTA_COUNT, DROPPED_OCTET_DELTA_COUNT, DROPPED_PACKET_DELTA_COUNT, SOURCE_IPV4_ADDRESS, DESTINATION_IPV4_ADDRESS, SOURCE_IPV4_PREFIX, DESTINATION_IPV4_PREFIX, FLOW_START_SECONDS, FLOW_END_SECONDS, FLOW_START_MILLISECONDS, FLOW_END_MILLISECONDS}
use Rattle.ipfix_elements.specs.Elements.{entry_of, iana}
use Rattle.ipfix_elements.specs.declared.kind.Kind.{Kind}
use Rattle.ipfix_elements.specs.declared.kind.Kind.TheVariants as kinds
use Rattle.ipfix_elements.specs.declared.kind.Width.TheVariants.{One, Four, Eight}
use Rattle.element_registry.specs.Registries.{Known, element_kind, is_of}
use Rattle.element_registry.specs.declared.kind.ElementKind.{ElementKind}
use Rattle.element_registry.specs.declared.kind.ElementKind.TheVariants.{Plain, Boolean, Signed, Micros, Nanos, Text}
use Rattle.flow_table.specs.declared.choices.Choices.{Choices}
use Rattle.flow_table.specs.declared.choices.Times.TheVariants as times
use Rattle.flow_table.specs.declared.choices.Totals.{Totals}
use Rattle.flow_table.specs.declared.choices.Totals.TheVariants.{Refused, AsDeltas}
use Rattle.flow_table.specs.declared.context.Context.{Context}
use Rattle.flow_table.specs.declared.context.TheConstants.{EXPORTER_NUMBER, EXPORTER_IPV4_NUMBER, EXPORTER_IPV6_NUMBER, OBSERVATION_DOMAIN_NUMBER}
use Rattle.flow_table.specs.declared.key.KeyElements.{KeyElements}
use Rattle.flow_table.specs.declared.key.KeyElements.TheVariants.{OfRecords, WithContext}
use Rattle.flow_table.specs.declared.method.Method.{Method}
use Rattle.flow_table.specs.declared.key.Key.{Key}
use Rattle.flow_table.specs.declared.key.Side.{Side}
use Rattle.flow_table.specs.declared.key.Side.TheVariants.{Read, Exported}
use Rattle.flow_table.specs.declared.plan.TheConstants.{MAX_KEYS, MAX_COUNTERS, MAX_SPREAD}
use Rattle.flow_table.specs.declared.key.TheConstants.{SOURCE_IPV6_ADDRESS, DESTINATION_IPV6_ADDRESS, SOURCE_IPV6_PREFIX, DESTINATION_IPV6_PREFIX}
use Rattle.flow_table.specs.declared.roles.TheConstants.{OCTET_TOTAL_COUNT, PACKET_TOTAL_COUNT}
use Rattle.flow_table.specs.declared.plan_fault.PlanFault.{PlanFault}
use Rattle.flow_table.specs.declared.plan_fault.PlanFault.TheVariants.{Length, Spread, KeyCount, KeyKind, Prefix, CounterCount, CounterKind, Repeated}

-- the length of an interval in milliseconds, how a flow's counters are distributed, the keys of the table, the kinds
-- that their fields are read by, its counters, the most intervals that a flow may cover if it is spread over them, and
-- what the plan chooses
pub record PlanValue : Type 0 where
  pub length : ℕ
  pub method : Method
  pub keys : List Key
  pub kinds : List Kind
  pub counters : List ElementId
  pub max_spread : ℕ
  pub choices : Choices

abbrev pub same_element : ElementId → ElementId → Bool
same_element a b = (a.pen == b.pen) && (a.number == b.number)

-- an element of IANA's registry with one of these numbers
abbrev pub is_of_iana : List ℕ → ElementId → Bool
is_of_iana numbers e = (e.pen == 0) && list_any (λ n. n == e.number) numbers

-- ---- elements of context: what is known of a record beside the fields that its exporter sent

-- the address that an exporter is known by: no template can name it, for numbers have 15 bits there (RFC 7011, section 3.2)
abbrev pub exporter : ElementId
exporter = iana EXPORTER_NUMBER

-- exporterIPv4Address, exporterIPv6Address and observationDomainId
abbrev pub exporter_ipv4 : ElementId
exporter_ipv4 = iana EXPORTER_IPV4_NUMBER

abbrev pub exporter_ipv6 : ElementId
exporter_ipv6 = iana EXPORTER_IPV6_NUMBER

abbrev pub observation_domain : ElementId
observation_domain = iana OBSERVATION_DOMAIN_NUMBER

abbrev pub is_context : ElementId → Bool
is_context e = is_of_iana (EXPORTER_NUMBER ∷ EXPORTER_IPV4_NUMBER ∷ EXPORTER_IPV6_NUMBER ∷ OBSERVATION_DOMAIN_NUMBER ∷ []) e

-- an exporter's address is one of IPv6, or one of IPv4 mapped into it
abbrev pub context_kind : ElementId → Option Kind
context_kind e =
    if same_element e exporter then Some kinds.Ipv6
    else if same_element e exporter_ipv4 then Some kinds.Ipv4
    else if same_element e exporter_ipv6 then Some kinds.Ipv6
    else if same_element e observation_domain then Some (kinds.Unsigned Four)
    else None

abbrev pub context_name : ElementId → Option (List ℕ)
context_name e =
    if same_element e exporter then Some (codes "exporter")
    else if same_element e exporter_ipv4 then Some (codes "exporterIPv4Address")
    else if same_element e exporter_ipv6 then Some (codes "exporterIPv6Address")
    else if same_element e observation_domain then Some (codes "observationDomainId")
    else None

-- the element of context that has a name
abbrev pub context_named : List ℕ → Option ElementId
context_named name =
    if bytes_eq name (codes "exporter") then Some exporter
    else if bytes_eq name (codes "exporterIPv4Address") then Some exporter_ipv4
    else if bytes_eq name (codes "exporterIPv6Address") then Some exporter_ipv6
    else if bytes_eq name (codes "observationDomainId") then Some observation_domain
    else None

-- ---- the kinds of keys

-- the kind that a key is read by: a truth value is a number of one octet, whichever it is (1 and 2 are those of RFC 7011,
-- section 6.1.5), and what has a sign, is a time or a text is no key
abbrev pub field_kind : ElementKind → Kind
field_kind (Plain kind) = kind
field_kind Boolean = kinds.Unsigned One
field_kind (Signed width) = kinds.Octets
field_kind Micros = kinds.Octets
field_kind Nanos = kinds.Octets
field_kind Text = kinds.Octets

-- whatever files say, an element of context has its own kind
abbrev pub key_kind : List Known → ElementId → Kind
key_kind known e = unwrap_or (context_kind e) (field_kind (element_kind known e))

abbrev pub kinds_of : List Known → List Key → List Kind
kinds_of known keys = map (λ k. key_kind known k.element) keys

-- what holds of a plan that chooses nothing
abbrev pub basic : Choices
basic = record { times = times.Basic; totals = Refused }

abbrev pub plan_with : ℕ → Method → List Key → List Kind → List ElementId → ℕ → Choices → PlanValue
plan_with length method keys kinds counters max_spread choices = record {
  length = length;
  method = method;
  keys = keys;
  kinds = kinds;
  counters = counters;
  max_spread = max_spread;
  choices = choices;
}

-- a plan whose elements are built in or known from files
abbrev pub chosen_plan : List Known → Choices → ℕ → Method → List Key → List ElementId → ℕ → PlanValue
chosen_plan known choices length method keys counters max_spread = plan_with length method keys (kinds_of known keys) counters max_spread choices

-- one whose elements are built in, and that chooses nothing
abbrev pub plan_value : ℕ → Method → List Key → List ElementId → ℕ → PlanValue
plan_value length method keys counters max_spread = chosen_plan [] basic length method keys counters max_spread

-- the keys of a plan, each with its kind
abbrev pub keys_and_kinds : PlanValue → List (Key × Kind)
keys_and_kinds plan = zip plan.keys plan.kinds

abbrev pub is_between : ℕ → ℕ → ℕ → Bool
is_between low high n = nat_le low n && nat_le n high

-- numbers that are in range (RFC 7011, section 3.2)
abbrev pub is_element : ElementId → Bool
is_element e = nat_lt e.pen (2 ^ 32) && nat_lt e.number (2 ^ 15)

-- numbers and addresses can be compared, times and octets are no keys
abbrev pub is_key_kind : Kind → Bool
is_key_kind (kinds.Unsigned width) = true
is_key_kind kinds.Ipv4 = true
is_key_kind kinds.Ipv6 = true
is_key_kind kinds.Mac = true
is_key_kind kinds.Seconds = false
is_key_kind kinds.Millis = false
is_key_kind kinds.Octets = false

-- what may be a key by the fields of records alone
abbrev pub is_record_key : List Known → ElementId → Bool
is_record_key known e = is_element e && is_key_kind (field_kind (element_kind known e))

-- and with what is known beside them
abbrev pub is_key : List Known → ElementId → Bool
is_key known e = is_context e || is_record_key known e

abbrev pub may_be_key : KeyElements → List Known → ElementId → Bool
may_be_key OfRecords known e = is_record_key known e
may_be_key WithContext known e = is_key known e

-- the addresses of a flow's ends may have a prefix, of up to 32 bits for IPv4 and 128 for IPv6
abbrev pub is_prefix_of : ElementId → Option ℕ → Bool
is_prefix_of e None = true
is_prefix_of e (Some bits) =
    (is_of_iana (SOURCE_IPV4_ADDRESS ∷ DESTINATION_IPV4_ADDRESS ∷ []) e && nat_le bits 32)
    || (is_of_iana (SOURCE_IPV6_ADDRESS ∷ DESTINATION_IPV6_ADDRESS ∷ []) e && nat_le bits 128)

abbrev pub HasPrefix : Key → Type 0
HasPrefix k = is_prefix_of k.element k.prefix ≡ true

-- the delta counters of octets, packets and flows
abbrev pub is_built_in_counter : ElementId → Bool
is_built_in_counter e =
    is_of_iana (OCTET_DELTA_COUNT ∷ PACKET_DELTA_COUNT ∷ DELTA_FLOW_COUNT ∷ POST_OCTET_DELTA_COUNT ∷ POST_PACKET_DELTA_COUNT
    ∷ DROPPED_OCTET_DELTA_COUNT ∷ DROPPED_PACKET_DELTA_COUNT ∷ []) e

abbrev pub is_unsigned64 : ElementKind → Bool
is_unsigned64 (Plain (kinds.Unsigned Eight)) = true
is_unsigned64 kind = false

-- what a file says of an element makes it a counter: an unsigned64, as each delta counter of an unsigned type is, and not a
-- total (RFC 7012, section 3.2)
abbrev pub is_delta_of : ElementId → Known → Bool
is_delta_of e k = is_of e k && (k.is_delta && is_unsigned64 k.kind)

-- a built-in counter, or one of a file
abbrev pub is_counter : List Known → ElementId → Bool
is_counter known e = is_built_in_counter e || (is_element e && (is_none (entry_of e) && list_any (is_delta_of e) known))

-- a total that is taken as a delta: octetTotalCount or packetTotalCount (RFC 7012, section 3.2.4)
abbrev pub is_taken_total : Totals → ElementId → Bool
is_taken_total Refused e = false
is_taken_total AsDeltas e = is_of_iana (OCTET_TOTAL_COUNT ∷ PACKET_TOTAL_COUNT ∷ []) e

-- what may be a counter of a plan
abbrev pub may_count : List Known → Totals → ElementId → Bool
may_count known totals e = is_counter known e || is_taken_total totals e

-- the element of a prefix of an address
abbrev pub prefix_number : ℕ → ℕ
prefix_number address =
    if address == SOURCE_IPV4_ADDRESS then SOURCE_IPV4_PREFIX
    else if address == DESTINATION_IPV4_ADDRESS then DESTINATION_IPV4_PREFIX
    else if address == SOURCE_IPV6_ADDRESS then SOURCE_IPV6_PREFIX
    else DESTINATION_IPV6_PREFIX

abbrev pub prefix_element : ElementId → ElementId
prefix_element e = record { pen = 0; number = prefix_number e.number }

-- no template can name the exporter's own element: its address is exported as exporterIPv6Address
abbrev pub whole_element : ElementId → ElementId
whole_element e = if same_element e exporter then exporter_ipv6 else e

-- the element that a key is exported as
abbrev pub exported_element : Key → ElementId
exported_element k = if is_some k.prefix then prefix_element k.element else whole_element k.element

-- the element of a key in the records that are read, and in those that are exported
abbrev pub element_in : Side → Key → ElementId
element_in Read k = k.element
element_in Exported k = exported_element k

-- the elements of a plan's keys and counters there
abbrev pub elements_in : Side → List Key → List ElementId → List ElementId
elements_in side keys counters = map (element_in side) keys ++ counters

-- whether an element stands in a list
abbrev pub is_among : ElementId → List ElementId → Bool
is_among e es = list_any (λ other. same_element other e) es

-- whether one stands twice
abbrev pub has_twice : List ElementId → Bool
has_twice [] = false
has_twice (e ∷ es) = is_among e es || has_twice es

-- the first of two faults, if there is one
abbrev pub or_else : Option PlanFault → Option PlanFault → Option PlanFault
or_else None second = second
or_else (Some fault) second = Some fault

-- a fault that fits if a test fails
abbrev pub fault_unless : Bool → PlanFault → Option PlanFault
fault_unless holds fault = if holds then None else Some fault

abbrev pub length_fault : ℕ → Option PlanFault
length_fault length = fault_unless (nat_lt 0 length) Length

abbrev pub spread_fault : ℕ → Option PlanFault
spread_fault max_spread = fault_unless (is_between 1 MAX_SPREAD max_spread) Spread

abbrev pub key_fault : KeyElements → List Known → List Key → Option PlanFault
key_fault which known keys =
    or_else (fault_unless (nat_le (length keys) MAX_KEYS) KeyCount)
    (or_else (fault_unless (list_all (λ k. may_be_key which known k.element) keys) KeyKind)
    (fault_unless (list_all (λ k. is_prefix_of k.element k.prefix) keys) Prefix))

abbrev pub counter_fault : List Known → Totals → List ElementId → Option PlanFault
counter_fault known totals counters =
    or_else (fault_unless (is_between 1 MAX_COUNTERS (length counters)) CounterCount)
    (fault_unless (list_all (may_count known totals) counters) CounterKind)

-- no element may stand twice, neither in the records that are read nor in those that are exported
abbrev pub repeat_fault : List Key → List ElementId → Option PlanFault
repeat_fault keys counters = fault_unless (not (has_twice (elements_in Read keys counters) || has_twice (elements_in Exported keys counters))) Repeated

-- the first fault that fits arguments, where these elements may be keys
abbrev pub fault_among : KeyElements → List Known → Choices → ℕ → List Key → List ElementId → ℕ → Option PlanFault
fault_among which known choices length keys counters max_spread =
    or_else (length_fault length)
    (or_else (spread_fault max_spread)
    (or_else (key_fault which known keys)
    (or_else (counter_fault known choices.totals counters)
    (repeat_fault keys counters))))

abbrev pub chosen_fault : List Known → Choices → ℕ → List Key → List ElementId → ℕ → Option PlanFault
chosen_fault known choices length keys counters max_spread = fault_among WithContext known choices length keys counters max_spread

-- that of a plan that chooses nothing, and whose keys are read from the fields of records alone
abbrev pub first_fault : List Known → ℕ → List Key → List ElementId → ℕ → Option PlanFault
first_fault known length keys counters max_spread = fault_among OfRecords known basic length keys counters max_spread

-- the first fault that fits what a plan says, whatever kinds it has
abbrev pub first_fault_of : List Known → PlanValue → Option PlanFault
first_fault_of known plan = chosen_fault known plan.choices plan.length plan.keys plan.counters plan.max_spread

-- no fault fits it
abbrev pub IsValid : List Known → PlanValue → Type 0
IsValid known plan = first_fault_of known plan ≡ None

-- for each such plan
abbrev pub ForValid : List Known → (PlanValue → Type 0) → Type 0
ForValid known P = (plan : PlanValue) → IsValid known plan → P plan

-- keys have the kinds that they have without files
abbrev pub KindsStay : List Known → List Key → Type 0
KindsStay known keys = kinds_of known keys ≡ kinds_of [] keys

-- ---- what holds of every plan

-- a flow's start or end
abbrev pub is_time : ElementId → Bool
is_time e = is_of_iana (FLOW_START_SECONDS ∷ FLOW_END_SECONDS ∷ FLOW_START_MILLISECONDS ∷ FLOW_END_MILLISECONDS ∷ []) e

-- an element that isn't a flow's time
abbrev pub is_value : ElementId → Bool
is_value e = is_element e && not (is_time e)

-- an element that a key may be read from
abbrev pub is_key_element : ElementId → Bool
is_key_element e = same_element e exporter || is_value e

-- a plan: a kind that can be compared for each of its keys, and no time among the elements of its keys and counters
pub record IsPlan (p : PlanValue) : Type 0 where
  pub positive : nat_lt 0 p.length ≡ true
  pub spread : is_between 1 MAX_SPREAD p.max_spread ≡ true
  pub few : nat_le (length p.keys) MAX_KEYS ≡ true
  pub beside : length p.kinds ≡ length p.keys
  pub kinds : list_all is_key_kind p.kinds ≡ true
  pub values : list_all (λ k. is_key_element k.element) p.keys ≡ true
  pub prefixes : list_all (λ k. is_prefix_of k.element k.prefix) p.keys ≡ true
  pub some : is_between 1 MAX_COUNTERS (length p.counters) ≡ true
  pub counters : list_all is_value p.counters ≡ true
  pub apart : not (has_twice (elements_in Read p.keys p.counters) || has_twice (elements_in Exported p.keys p.counters)) ≡ true

-- ---- what a plan's keys name of context

abbrev pub has_key : ElementId → PlanValue → Bool
has_key e plan = list_any (λ k. same_element k.element e) plan.keys

abbrev pub context_of : PlanValue → Context
context_of plan = record {
  exporter = has_key exporter plan;
  exporter_ipv4_address = has_key exporter_ipv4 plan;
  exporter_ipv6_address = has_key exporter_ipv6 plan;
  observation_domain_id = has_key observation_domain plan;
}

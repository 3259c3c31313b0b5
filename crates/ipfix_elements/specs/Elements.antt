-- The information elements that are known by name (IANA, "IPFIX Information Elements"; RFC 7012, section 5).
use Rattle.std.specs.Prelude.{◌≡◌, ℕ, ◌==◌, List, [], ◌∷◌, find, codes, Option, Some, None, option_map, if◌then◌else◌}
use Rattle.std.specs.Option.{option_map_or}
use Rattle.ipfix_wire.specs.declared.specifier.ElementId.{ElementId}
use Rattle.ipfix_elements.specs.declared.kind.Width.TheVariants.{One, Two, Four, Eight}
use Rattle.ipfix_elements.specs.declared.kind.Kind.{Kind}
use Rattle.ipfix_elements.specs.declared.kind.Kind.TheVariants.{Unsigned, Ipv4, Ipv6, Mac, Seconds, Millis, Octets}

-- an element of IANA's registry
abbrev pub iana : ℕ → ElementId
iana number = record { pen = 0; number = number }

-- an element's number and name in IANA's registry, and the kind that its fields are read by
pub record Entry : Type 0 where
  pub number : ℕ
  pub name : List ℕ
  pub kind : Kind

abbrev pub element : ℕ → List ℕ → Kind → Entry
element number name kind = record { number = number; name = name; kind = kind }

abbrev pub u8 : Kind
u8 = Unsigned One

abbrev pub u16 : Kind
u16 = Unsigned Two

abbrev pub u32 : Kind
u32 = Unsigned Four

abbrev pub u64 : Kind
u64 = Unsigned Eight

unfoldable pub elements : List Entry
elements =
    element 1 (codes "octetDeltaCount") u64 ∷
    element 2 (codes "packetDeltaCount") u64 ∷
    element 3 (codes "deltaFlowCount") u64 ∷
    element 4 (codes "protocolIdentifier") u8 ∷
    element 5 (codes "ipClassOfService") u8 ∷
    element 6 (codes "tcpControlBits") u16 ∷
    element 7 (codes "sourceTransportPort") u16 ∷
    element 8 (codes "sourceIPv4Address") Ipv4 ∷
    element 9 (codes "sourceIPv4PrefixLength") u8 ∷
    element 10 (codes "ingressInterface") u32 ∷
    element 11 (codes "destinationTransportPort") u16 ∷
    element 12 (codes "destinationIPv4Address") Ipv4 ∷
    element 13 (codes "destinationIPv4PrefixLength") u8 ∷
    element 14 (codes "egressInterface") u32 ∷
    element 16 (codes "bgpSourceAsNumber") u32 ∷
    element 17 (codes "bgpDestinationAsNumber") u32 ∷
    element 23 (codes "postOctetDeltaCount") u64 ∷
    element 24 (codes "postPacketDeltaCount") u64 ∷
    element 27 (codes "sourceIPv6Address") Ipv6 ∷
    element 28 (codes "destinationIPv6Address") Ipv6 ∷
    element 44 (codes "sourceIPv4Prefix") Ipv4 ∷
    element 45 (codes "destinationIPv4Prefix") Ipv4 ∷
    element 56 (codes "sourceMacAddress") Mac ∷
    element 58 (codes "vlanId") u16 ∷
    element 60 (codes "ipVersion") u8 ∷
    element 61 (codes "flowDirection") u8 ∷
    element 132 (codes "droppedOctetDeltaCount") u64 ∷
    element 133 (codes "droppedPacketDeltaCount") u64 ∷
    element 136 (codes "flowEndReason") u8 ∷
    element 150 (codes "flowStartSeconds") Seconds ∷
    element 151 (codes "flowEndSeconds") Seconds ∷
    element 152 (codes "flowStartMilliseconds") Millis ∷
    element 153 (codes "flowEndMilliseconds") Millis ∷
    element 210 (codes "paddingOctets") Octets ∷
    element 375 (codes "originalFlowsPresent") u64 ∷
    []

-- the entry of an element; those of an enterprise have none
abbrev pub entry_of : ElementId → Option Entry
entry_of e = if e.pen == 0 then find (λ r. r.number == e.number) elements else None

abbrev pub name_of : ElementId → Option (List ℕ)
name_of e = option_map (λ r. r.name) (entry_of e)

-- what is not in the table is read as octets
abbrev pub kind_of : ElementId → Kind
kind_of e = option_map_or (λ r. r.kind) (entry_of e) Octets

-- the element of an entry
abbrev pub listed : Entry → ElementId
listed r = iana r.number

-- a constant is the number of an element of IANA's registry that has this name and kind
abbrev pub IsKnownAs : ℕ → ℕ → List ℕ → Kind → Type 0
IsKnownAs constant number name kind = (constant ≡ number) × (entry_of (iana number) ≡ Some (element number name kind))

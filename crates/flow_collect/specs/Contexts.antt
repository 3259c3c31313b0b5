-- What a session knows beside a record, as fields that follow the record's own, and which of its records count.
use Rattle.std.specs.Prelude.{ℕ, Bool, true, false, List, [], ◌∷◌, ◌++◌, map, take, bytes_eq, Option, Some, None, if◌then◌else◌}
use Rattle.std.specs.Int.{w32, to_be_bytes}
use Rattle.std.specs.List.{list_any}
use Rattle.std.specs.Net.Addr.{ipv4_octets, ipv6_octets, ipv6_segments, low_octets}
use Rattle.std.specs.declared.net.ipv6_addr.Ipv6Addr.{Ipv6Addr}
use Rattle.std.specs.declared.net.ip_addr.IpAddr.{IpAddr}
use Rattle.std.specs.declared.net.ip_addr.IpAddr.TheVariants.{V4, V6}
use Rattle.ipfix_wire.specs.declared.specifier.ElementId.{ElementId}
use Rattle.ipfix_message.specs.Fields.{Field}
use Rattle.ipfix_message.specs.declared.record.DataRecord.{DataRecord}
use Rattle.ipfix_session.specs.Given.{records_within}
use Rattle.ipfix_session.specs.declared.driver.TheConstants.{READ_LIMIT}
use Rattle.ipfix_session.specs.declared.session_limits.SessionLimits.{SessionLimits}
use Rattle.exporter_options.specs.Beside.{all_told, asked_first}
use Rattle.flow_filter.specs.Sinks.{counted, left_out}
use Rattle.flow_maps.specs.Numbers.{if_mapped}
use Rattle.flow_estimates.specs.Estimates.{if_estimated}
use Rattle.flow_estimates.specs.Noted.{Noted}
use Rattle.exporter_options.specs.Known.{Known}
use Rattle.exporter_options.specs.declared.beside.TheConstants as told
use Rattle.flow_times.specs.Untimed.{times_of}
use Rattle.flow_times.specs.declared.notes.TimesReport.{TimesReport}
use Rattle.flow_times.specs.declared.notes.TimeNoting.TheVariants.{Nothing}
use Rattle.flow_table.specs.declared.context.Context.{Context}
use Rattle.flow_table.specs.declared.context.TheConstants.{EXPORTER, EXPORTER_IPV4_ADDRESS, EXPORTER_IPV6_ADDRESS, OBSERVATION_DOMAIN_ID}
use Rattle.flow_collect.specs.Great.{has_great}
use Rattle.flow_collect.specs.Rated.{asked_after, noted_after, notes_first}
use Rattle.flow_collect.specs.declared.session_context.Exporter.{Exporter}
use Rattle.flow_collect.specs.declared.session_context.Exporter.TheVariants.{Ipv4, Ipv6}
use Rattle.flow_collect.specs.declared.session_context.InContext.{InContext}
use Rattle.flow_collect.specs.declared.session_context.SessionContext.{SessionContext}
use Rattle.flow_collect.specs.declared.session_context.TheConstants.{NOTHING_WANTED}

-- an IPv4 address a.b.c.d is ::ffff:a.b.c.d in IPv6 (RFC 4291, section 2.5.5.2)
abbrev pub mapped : List ℕ → List ℕ
mapped address = 0 ∷ 0 ∷ 0 ∷ 0 ∷ 0 ∷ 0 ∷ 0 ∷ 0 ∷ 0 ∷ 0 ∷ 255 ∷ 255 ∷ address

abbrev pub is_mapped : Ipv6Addr → Bool
is_mapped a = bytes_eq (take 6 (ipv6_segments a)) (0 ∷ 0 ∷ 0 ∷ 0 ∷ 0 ∷ 0xffff ∷ [])

-- an address that is mapped is the IPv4 address in it
abbrev pub exporter_at : IpAddr → Exporter
exporter_at (V4 a) = Ipv4 (ipv4_octets a)
exporter_at (V6 a) = if is_mapped a then Ipv4 (low_octets a) else Ipv6 (ipv6_octets a)

-- a field, if it is wanted
abbrev pub named : Bool → ElementId → List ℕ → List Field
named true element octets = record { element = element; octets = octets } ∷ []
named false element octets = []

-- an exporter's address in 16 octets, under an element that no template can name, and as the element of its family
abbrev pub exporter_fields : Context → Exporter → List Field
exporter_fields wanted (Ipv4 a) = named wanted.exporter EXPORTER (mapped a) ++ named wanted.exporter_ipv4_address EXPORTER_IPV4_ADDRESS a
exporter_fields wanted (Ipv6 a) = named wanted.exporter EXPORTER a ++ named wanted.exporter_ipv6_address EXPORTER_IPV6_ADDRESS a

abbrev pub origin_fields : Context → Option Exporter → List Field
origin_fields wanted None = []
origin_fields wanted (Some exporter) = exporter_fields wanted exporter

-- what is wanted of whose session it is, and the domain of the record's message
abbrev pub context_fields : SessionContext → ℕ → List Field
context_fields c domain = origin_fields c.wanted c.exporter ++ named c.wanted.observation_domain_id OBSERVATION_DOMAIN_ID (to_be_bytes w32 domain)

-- a record with other fields
abbrev pub with_fields : DataRecord → List Field → DataRecord
with_fields r fields = record { domain = r.domain; export_time = r.export_time; template = r.template; scope = r.scope; fields = fields }

-- a record with these fields after its own: the first field of an element wins, so a field of the record stays what it is
abbrev pub with_session : SessionContext → DataRecord → DataRecord
with_session c r = with_fields r (r.fields ++ context_fields c r.domain)

-- then with the numbers of maps, and then with the estimates of counters
abbrev pub with_context : SessionContext → DataRecord → DataRecord
with_context c r = with_fields r (if_estimated c.estimates (if_mapped c.maps (r.fields ++ context_fields c r.domain)))

-- a session's records: before these fields each has those of what options records told before it, as far as it is wanted
abbrev pub all_with_context : SessionContext → List DataRecord → List DataRecord
all_with_context c records = map (with_context c) (all_told (asked_first c.options) records)

-- nothing is known, and nothing is wanted
abbrev pub nothing_known : SessionContext
nothing_known = record { exporter = None; wanted = NOTHING_WANTED; options = told.NOTHING_WANTED; maps = None; estimates = None; refuses_sampled = false; times = Nothing; great_counters = None; templates = None }

-- how often a session reads at most, and what its templates may count
abbrev pub limits_in : SessionContext → SessionLimits
limits_in c = record { reads = READ_LIMIT; templates = c.templates }

module _ {S : Type 0} where
  abbrev pub sources_of : List (InContext S) → List S
  sources_of sources = map (λ (s : InContext S). s.source) sources

  -- a source of whose session nothing is known beside its records, which all count
  abbrev pub alone : S → InContext S
  alone source = record { source = source; context = nothing_known; filter = None }

  -- those of a session's own records that its filter counts, each with what the session knows
  abbrev pub counted_in : InContext S → List DataRecord → List DataRecord
  counted_in s own = counted s.filter (all_with_context s.context own)

  -- how many of them it does not count
  abbrev pub left_out_in : InContext S → List DataRecord → ℕ
  left_out_in s own = left_out s.filter (all_with_context s.context own)

  -- what its options records told by the end
  abbrev pub known_in : InContext S → List DataRecord → Known
  known_in s own = (asked_after (asked_first s.context.options) own).known

  -- what is noted of the rates of those that it counts, if rates are asked for
  abbrev pub noted_in : InContext S → List DataRecord → Option Noted
  noted_in s own = noted_after s.context.estimates (notes_first s.context.options.sampling) (counted_in s own)

  -- and what is told of the times of those that it counts, if that is asked for
  abbrev pub times_in : InContext S → List DataRecord → TimesReport
  times_in s own = times_of s.context.times (counted_in s own)

  -- whether one of those that it counts has a great counter, of those that are looked at
  abbrev pub great_in : InContext S → List DataRecord → Bool
  great_in s own = list_any (has_great s.context.great_counters) (counted_in s own)

  -- the records of these texts that count, each with what the session of its source knows: of a session with a limit of templates
  -- those before the message that is above it
  abbrev pub records_in_context : List (InContext S) → List (List ℕ) → List (List DataRecord)
  records_in_context (s ∷ sources) (text ∷ texts) = counted_in s (records_within s.context.templates text) ∷ records_in_context sources texts
  records_in_context sources texts = []

  -- the records of all sessions, session after session, each with what its session knows, whether it counts or not
  abbrev pub all_in_context : List (InContext S) → List (List DataRecord) → List DataRecord
  all_in_context (s ∷ sources) (own ∷ owns) = all_with_context s.context own ++ all_in_context sources owns
  all_in_context sources owns = []

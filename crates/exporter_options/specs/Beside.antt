-- What options records told before a record, as fields that follow the record's own.
use Rattle.std.specs.Prelude.{ℕ, ◌||◌, if◌then◌else◌, List, [], ◌∷◌, ◌++◌, Option, Some, None}
use Rattle.std.specs.Int.{w32, w64, to_be_bytes}
use Rattle.ipfix_elements.specs.Elements.{iana}
use Rattle.ipfix_message.specs.Fields.{Field}
use Rattle.ipfix_message.specs.declared.record.DataRecord.{DataRecord}
use Rattle.exporter_options.specs.Known.{Known, init_time_beside, noted, nothing_known, sampling_beside}
use Rattle.exporter_options.specs.declared.sampling.Rate.{Rate}
use Rattle.exporter_options.specs.declared.sampling.Sampling.{Sampling}
use Rattle.exporter_options.specs.declared.sampling.Sampling.TheVariants.{At, Unusable}
use Rattle.exporter_options.specs.declared.beside.Beside.{Beside}
use Rattle.exporter_options.specs.declared.beside.Wanted.{Wanted}
use Rattle.exporter_options.specs.declared.beside.TheConstants.{SAMPLING_RATE}

-- a rate, if what was told is one
abbrev pub rate_in : Option Sampling → Option Rate
rate_in None = None
rate_in (Some (At rate)) = Some rate
rate_in (Some Unusable) = None

-- what is known beside a record, as far as it is wanted
abbrev pub known_beside : Wanted → Known → DataRecord → Beside
known_beside wanted known r = record {
  init_time = if wanted.init_time then init_time_beside known r else None;
  rate = if wanted.sampling then rate_in (sampling_beside known r) else None;
}

-- systemInitTimeMilliseconds (160), in 8 octets
abbrev pub init_time_fields : Option ℕ → List Field
init_time_fields None = []
init_time_fields (Some time) = record { element = iana 160; octets = to_be_bytes w64 time } ∷ []

-- a rate, under an element that no template can name: in 4 octets how many packets are selected, in 8 of how many
abbrev pub rate_fields : Option Rate → List Field
rate_fields None = []
rate_fields (Some rate) = record { element = SAMPLING_RATE; octets = to_be_bytes w32 rate.selected ++ to_be_bytes w64 rate.population } ∷ []

abbrev pub fields_beside : Beside → List Field
fields_beside b = init_time_fields b.init_time ++ rate_fields b.rate

-- what a session is asked for, and knows
pub record Asked : Type 0 where
  pub wanted : Wanted
  pub known : Known

-- before its first record
abbrev pub asked_first : Wanted → Asked
asked_first wanted = record { wanted = wanted; known = nothing_known }

-- a record with these fields after its own: the first field of an element wins, so a field of the record stays what it is
abbrev pub with_told : Asked → DataRecord → DataRecord
with_told s r =
    record { domain = r.domain; export_time = r.export_time; template = r.template; scope = r.scope; fields = r.fields ++ fields_beside (known_beside s.wanted s.known r) }

-- and what is known after it; nothing is noted if nothing is wanted
abbrev pub asked_next : Asked → DataRecord → Asked
asked_next s r = if s.wanted.init_time || s.wanted.sampling then record { wanted = s.wanted; known = noted s.known r } else s

-- a session's records, each with what options records told before it
abbrev pub all_told : Asked → List DataRecord → List DataRecord
all_told s [] = []
all_told s (r ∷ rs) = with_told s r ∷ all_told (asked_next s r) rs

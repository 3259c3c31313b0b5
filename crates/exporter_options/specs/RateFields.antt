-- The rate that a record's fields say.
use Rattle.std.specs.Prelude.{ℕ, ◌<◌, ◌^◌, ◌==◌, if◌then◌else◌, List, length, take, drop, Option, Some, None, option_and_then}
use Rattle.ipfix_elements.specs.Values.{number_in}
use Rattle.ipfix_elements.specs.declared.kind.Kind.TheVariants.{Unsigned}
use Rattle.ipfix_elements.specs.declared.kind.Width.TheVariants.{Four, Eight}
use Rattle.ipfix_message.specs.Fields.{Field, octets_of}
use Rattle.exporter_options.specs.Beside.{rate_in}
use Rattle.exporter_options.specs.Known.{Known, sampling_of}
use Rattle.exporter_options.specs.declared.sampling.Rate.{Rate}
use Rattle.exporter_options.specs.declared.beside.TheConstants.{SAMPLING_RATE}

-- so many packets are selected, of so many
abbrev pub rate_from : Option ℕ → Option ℕ → Option Rate
rate_from (Some selected) (Some population) = Some (record { selected = selected; population = population })
rate_from selected population = None

-- in 4 octets how many packets are selected, in 8 of how many
abbrev pub rate_of_octets : List ℕ → Option Rate
rate_of_octets octets =
    if length octets == 12 then rate_from (number_in (Unsigned Four) (take 4 octets)) (number_in (Unsigned Eight) (drop 4 octets)) else None

-- the rate in the first field that says one
abbrev pub rate_of : List Field → Option Rate
rate_of fields = option_and_then rate_of_octets (octets_of SAMPLING_RATE fields)

-- the rate that is known of a domain, by whichever selector it was told last
abbrev pub rate_of_domain : Known → ℕ → Option Rate
rate_of_domain known domain = rate_in (sampling_of known domain None)

-- its numbers have a place in these octets
abbrev pub FitsField : Option Rate → Type 0
FitsField None = Unit {0}
FitsField (Some rate) = (rate.selected < 2 ^ 32) × (rate.population < 2 ^ 64)

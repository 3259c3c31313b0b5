-- At which rate packets are sampled, as fields tell it (RFC 5476, section 6.5.2; RFC 5477, section 8.2).
use Rattle.std.specs.Prelude.{ℕ, ◌+◌, ◌*◌, ◌==◌, ◌&&◌, nat_lt, nat_le, if◌then◌else◌, List, Option, Some, None, unwrap_or, option_map, option_and_then}
use Rattle.std.specs.Option.{option_or}
use Rattle.ipfix_elements.specs.Elements.{iana}
use Rattle.ipfix_elements.specs.Values.{number_in}
use Rattle.ipfix_elements.specs.declared.kind.Kind.{Kind}
use Rattle.ipfix_elements.specs.declared.kind.Kind.TheVariants.{Unsigned}
use Rattle.ipfix_elements.specs.declared.kind.Width.TheVariants.{Four, Eight}
use Rattle.ipfix_message.specs.Fields.{Field, octets_of}
use Rattle.exporter_options.specs.declared.sampling.Sampling.{Sampling}
use Rattle.exporter_options.specs.declared.sampling.Sampling.TheVariants.{At, Unusable}
use Rattle.exporter_options.specs.declared.sampling.TheConstants.{GREATEST_RATE}

-- the number in the first field of an element of IANA's, as a kind
abbrev pub number_as : Kind → ℕ → List Field → Option ℕ
number_as kind element fields = option_and_then (number_in kind) (octets_of (iana element) fields)

-- these elements are unsigned32
abbrev pub number_of : ℕ → List Field → Option ℕ
number_of element fields = number_as (Unsigned Four) element fields

-- so many packets of so many are selected: at least one, and at least one of a million
abbrev pub sampled : ℕ → Option ℕ → Sampling
sampled selected None = Unusable
sampled selected (Some population) =
    if nat_lt 0 selected && (nat_le selected population && nat_le population (GREATEST_RATE * selected))
    then At (record { selected = selected; population = population })
    else Unusable

-- of each interval (305) and the space after it (306) the interval is selected; without the space this is no rate
abbrev pub by_count : List Field → Option Sampling
by_count fields = option_map (λ interval. sampled interval (option_map (λ space. interval + space) (number_of 306 fields))) (number_of 305 fields)

-- so many (309) are selected at random, of so many (310)
abbrev pub by_size : List Field → Option Sampling
by_size fields = option_map (λ size. sampled size (number_of 310 fields)) (number_of 309 fields)

-- selectorAlgorithm (304) is 1 for systematic count-based sampling, as where it is missing, and 3 for random n-out-of-N sampling
abbrev pub by_algorithm : List Field → Option Sampling
by_algorithm fields =
    let algorithm = unwrap_or (number_of 304 fields) 1 in
    if algorithm == 1 then by_count fields else if algorithm == 3 then by_size fields else None

-- one of as many packets as the element says
abbrev pub one_of : ℕ → List Field → Option Sampling
one_of element fields = option_map (λ n. sampled 1 (Some n)) (number_of element fields)

-- what fields tell: by their algorithm, else by samplerRandomInterval (50), else by samplingInterval (34)
abbrev pub sampling_in : List Field → Option Sampling
sampling_in fields = option_or (option_or (by_algorithm fields) (one_of 50 fields)) (one_of 34 fields)

-- the selector that fields name: selectorId (302), else samplerId (48)
abbrev pub selector_in : List Field → Option ℕ
selector_in fields = option_or (number_as (Unsigned Eight) 302 fields) (number_as (Unsigned Eight) 48 fields)

-- The estimates of a record's counters, by the rate at which its packets were sampled, as fields that follow its others.
use Rattle.std.specs.Prelude.{ℕ, ◌*◌, ◌/◌, ◌^◌, ◌==◌, nat_le, nat_lt, Bool, false, if◌then◌else◌, List, [], ◌∷◌, ◌++◌, Option, Some, None, option_map, option_and_then}
use Rattle.std.specs.Borrow.{Bor}
use Rattle.std.specs.Int.{w64, to_be_bytes}
use Rattle.std.specs.List.{list_any}
use Rattle.ipfix_wire.specs.declared.specifier.ElementId.{ElementId}
use Rattle.ipfix_elements.specs.Values.{number_in}
use Rattle.ipfix_elements.specs.declared.kind.Kind.TheVariants.{Unsigned}
use Rattle.ipfix_elements.specs.declared.kind.Width.TheVariants.{Eight}
use Rattle.ipfix_message.specs.Fields.{Field, octets_of}
use Rattle.exporter_options.specs.RateFields.{rate_of}
use Rattle.exporter_options.specs.declared.sampling.Rate.{Rate}
use Rattle.flow_maps.specs.Numbers.{without}
use Rattle.flow_estimates.specs.declared.estimates.Estimate.{Estimate}
use Rattle.flow_estimates.specs.declared.estimates.Estimates.{Estimates}

-- ---- a number

-- times so many packets, of which so many were selected, rounded down; without a rate the number itself
abbrev pub estimate : Option Rate → ℕ → ℕ
estimate None n = n
estimate (Some rate) n = if rate.selected == 0 then n else n * rate.population / rate.selected

-- a counter is an unsigned64, in up to 8 octets (RFC 7011, section 6.2)
abbrev pub number_of : ElementId → List Field → Option ℕ
number_of counter fields = option_and_then (number_in (Unsigned Eight)) (octets_of counter fields)

-- the estimate of a counter, by the rate that the fields say
abbrev pub estimate_of : ElementId → List Field → Option ℕ
estimate_of counter fields = option_map (estimate (rate_of fields)) (number_of counter fields)

-- 8 octets have no place for it
abbrev pub is_too_large : Option ℕ → Bool
is_too_large None = false
is_too_large (Some n) = nat_le (2 ^ 64) n

-- ---- fields

-- in 8 octets; there is none of a counter that is missing, or where it has no place
abbrev pub estimate_field : ElementId → Option ℕ → List Field
estimate_field element None = []
estimate_field element (Some n) = if nat_lt n (2 ^ 64) then record { element = element; octets = to_be_bytes w64 n } ∷ [] else []

-- no exporter can say the estimate: what it says of its element is removed, and the estimate stands after the others
abbrev pub with_estimate : Estimate → List Field → List Field
with_estimate key fields = without key.element fields ++ estimate_field key.element (estimate_of key.counter fields)

-- counter after counter
abbrev pub with_each : List Estimate → List Field → List Field
with_each [] fields = fields
with_each (key ∷ keys) fields = with_each keys (with_estimate key fields)

-- with the estimates, if some are wanted
abbrev pub if_estimated : Option (Bor Estimates) → List Field → List Field
if_estimated None fields = fields
if_estimated (Some estimates) fields = with_each estimates.now.keys.items fields

-- ---- too large

abbrev pub has_too_large : List Estimate → List Field → Bool
has_too_large keys fields = list_any (λ (key : Estimate). is_too_large (estimate_of key.counter fields)) keys

abbrev pub is_too_large_for : Option (Bor Estimates) → List Field → Bool
is_too_large_for None fields = false
is_too_large_for (Some estimates) fields = has_too_large estimates.now.keys.items fields

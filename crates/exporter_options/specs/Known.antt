-- What is known of an exporter from the options records of a session so far.
use Rattle.std.specs.Prelude.{ℕ, ◌==◌, ◌&&◌, not, nat_eq, nat_lt, Bool, true, List, [], ◌∷◌, length, take, filter, find, fold, Option, Some, None}
use Rattle.std.specs.Option.{option_eq, option_map, option_or}
use Rattle.ipfix_message.specs.declared.record.DataRecord.{DataRecord}
use Rattle.exporter_options.specs.Rates.{selector_in}
use Rattle.exporter_options.specs.Telling.{told_by}
use Rattle.exporter_options.specs.declared.sampling.Sampling.{Sampling}
use Rattle.exporter_options.specs.declared.telling.Told.{Told}
use Rattle.exporter_options.specs.declared.init_times.InitTime.{InitTime}
use Rattle.exporter_options.specs.declared.samplings.DomainSampling.{DomainSampling}
use Rattle.exporter_options.specs.declared.exporter_options.TheConstants.{MOST_KEPT}

-- what was told last of each domain, and of sampling by each selector of a domain, the newest first
pub record Known : Type 0 where
  pub init_times : List InitTime
  pub samplings : List DomainSampling

abbrev pub nothing_known : Known
nothing_known = record { init_times = []; samplings = [] }

-- it takes the place of what was told of the same before; only so many are kept: what was told longest ago is forgotten first
abbrev pub keep : {X : Type 0} → (X → Bool) → X → List X → List X
keep is_of_same told kept = take MOST_KEPT (told ∷ filter (λ k. not (is_of_same k)) kept)

abbrev pub keep_init_time : ℕ → Option ℕ → List InitTime → List InitTime
keep_init_time domain None kept = kept
keep_init_time domain (Some time) kept = keep (λ k. k.domain == domain) (record { domain = domain; millis = time }) kept

abbrev pub keep_told : DomainSampling → List DomainSampling → List DomainSampling
keep_told told kept = keep (λ k. (k.domain == told.domain) && option_eq nat_eq k.selector told.selector) told kept

abbrev pub keep_sampling : ℕ → Option ℕ → Option Sampling → List DomainSampling → List DomainSampling
keep_sampling domain selector None kept = kept
keep_sampling domain selector (Some sampling) kept = keep_told (record { domain = domain; selector = selector; sampling = sampling }) kept

-- what an options record tells is known from then on; of a part that it does not tell, what was told before stays
abbrev pub with_told : Option Told → Known → Known
with_told None known = known
with_told (Some t) known =
    record { init_times = keep_init_time t.domain t.init_time known.init_times; samplings = keep_sampling t.domain t.selector t.sampling known.samplings }

-- what is known after one record more
abbrev pub noted : Known → DataRecord → Known
noted known r = with_told (told_by r) known

-- what is known after the records of a session so far, the first of them first
abbrev pub known_after : List DataRecord → Known
known_after records = fold noted nothing_known records

abbrev pub init_time_told : Known → ℕ → Option ℕ
init_time_told known domain = option_map (λ k. k.millis) (find (λ k. k.domain == domain) known.init_times)

-- a record that names a selector takes what was told of that one alone, and one that names none what was told last, of whichever
abbrev pub is_asked : Option ℕ → Option ℕ → Bool
is_asked None told = true
is_asked (Some selector) told = option_eq nat_eq told (Some selector)

abbrev pub sampling_kept : List DomainSampling → ℕ → Option ℕ → Option Sampling
sampling_kept kept domain selector = option_map (λ k. k.sampling) (find (λ k. (k.domain == domain) && is_asked selector k.selector) kept)

abbrev pub sampling_told : Known → ℕ → Option ℕ → Option Sampling
sampling_told known domain selector = sampling_kept known.samplings domain selector

-- sampling was told of, by whichever selector of whichever domain
abbrev pub has_samplings : Known → Bool
has_samplings known = nat_lt 0 (length known.samplings)

-- of a domain that was told of, what was told of it, else what was told of domain 0, which is the whole exporter (RFC 7011, section 3.1)
abbrev pub of_domain : {X : Type 0} → (ℕ → Option X) → ℕ → Option X
of_domain told domain = option_or (told domain) (told 0)

-- when the exporter of a domain's records was started
abbrev pub init_time_of : Known → ℕ → Option ℕ
init_time_of known domain = of_domain (init_time_told known) domain

-- how packets of a domain are sampled, by a selector if a record names one
abbrev pub sampling_of : Known → ℕ → Option ℕ → Option Sampling
sampling_of known domain selector = of_domain (λ d. sampling_told known d selector) domain

-- both of these, of a record
abbrev pub init_time_beside : Known → DataRecord → Option ℕ
init_time_beside known r = init_time_of known r.domain

abbrev pub sampling_beside : Known → DataRecord → Option Sampling
sampling_beside known r = sampling_of known r.domain (selector_in r.fields)

-- How many records have which rate.
use Rattle.std.specs.Prelude.{◌≡◌, ℕ, ◌+◌, ◌-◌, ◌^◌, ◌==◌, ◌&&◌, ◌||◌, min, not, nat_lt, Bool, false, if◌then◌else◌, List, [], ◌∷◌, take, filter, find, Option, Some, None, is_none, is_some, option_map, unwrap_or}
use Rattle.std.specs.Borrow.{Bor}
use Rattle.std.specs.List.{list_any}
use Rattle.std.specs.Option.{option_eq}
use Rattle.ipfix_message.specs.declared.record.DataRecord.{DataRecord}
use Rattle.exporter_options.specs.Known.{Known}
use Rattle.exporter_options.specs.RateFields.{rate_of, rate_of_domain}
use Rattle.exporter_options.specs.declared.sampling.Rate.{Rate}
use Rattle.flow_estimates.specs.Estimates.{is_too_large_for}
use Rattle.flow_estimates.specs.declared.estimates.Estimates.{Estimates}
use Rattle.flow_estimates.specs.declared.rate_notes.RateCount.{RateCount}
use Rattle.flow_estimates.specs.declared.rate_notes.TheConstants.{MOST_RATES}
use Rattle.flow_estimates.specs.declared.report.SamplingReport.{SamplingReport}

-- ---- counts

abbrev pub same_rate : Rate → Rate → Bool
same_rate a b = (a.selected == b.selected) && (a.population == b.population)

abbrev pub is_of : ℕ → Option Rate → RateCount → Bool
is_of domain rate c = (c.domain == domain) && option_eq same_rate c.rate rate

abbrev pub records_of : ℕ → Option Rate → List RateCount → ℕ
records_of domain rate counts = unwrap_or (option_map (λ c. c.records) (find (is_of domain rate) counts)) 0

-- one record more; a count stops at 2^64 - 1
abbrev pub one_more : ℕ → ℕ
one_more n = min (n + 1) (2 ^ 64 - 1)

-- a record more of the same domain and rate as the newest
abbrev pub counted_again : ℕ → Option Rate → List RateCount → Option (List RateCount)
counted_again domain rate [] = None
counted_again domain rate (c ∷ rest) =
    if is_of domain rate c then Some (record { domain = c.domain; rate = c.rate; records = one_more c.records } ∷ rest) else None

-- a record more, whose domain and rate become the newest; only so many are kept: what was counted longest ago is forgotten first
abbrev pub counted_anew : ℕ → Option Rate → List RateCount → List RateCount
counted_anew domain rate counts =
    take MOST_RATES (record { domain = domain; rate = rate; records = one_more (records_of domain rate counts) } ∷ filter (λ c. not (is_of domain rate c)) counts)

-- a record more of the same domain and rate as the newest, or other counts
abbrev pub counted_or : List RateCount → ℕ → Option Rate → List RateCount → List RateCount
counted_or others domain rate counts = unwrap_or (counted_again domain rate counts) others

-- the newest first
abbrev pub counted : ℕ → Option Rate → List RateCount → List RateCount
counted domain rate counts = counted_or (counted_anew domain rate counts) domain rate counts

-- ---- notes

-- fewer packets are selected than there are
abbrev pub is_sampled : Option Rate → Bool
is_sampled None = false
is_sampled (Some rate) = nat_lt rate.selected rate.population

-- of a session's records so far: how many have which rate, whether one was sampled, and whether one has an estimate that is too large
pub record Noted : Type 0 where
  pub rates : List RateCount
  pub has_sampled : Bool
  pub has_too_large : Bool

abbrev pub noted_first : Noted
noted_first = record { rates = []; has_sampled = false; has_too_large = false }

-- after one record more; a record with scope fields is no flow
abbrev pub note : Option (Bor Estimates) → Noted → DataRecord → Noted
note estimates n r =
    if nat_lt 0 r.scope then n
    else record {
      rates = counted r.domain (rate_of r.fields) n.rates;
      has_sampled = n.has_sampled || is_sampled (rate_of r.fields);
      has_too_large = n.has_too_large || is_too_large_for estimates r.fields;
    }

-- ---- at the end of a session, by what its options records told

-- the rate that was told of its domain only after these records, or by another selector than theirs
abbrev pub late_rate : Known → RateCount → Option Rate
late_rate known c = if is_none c.rate then rate_of_domain known c.domain else None

abbrev pub is_late_sampled : Known → RateCount → Bool
is_late_sampled known c = is_sampled (late_rate known c)

-- records whose domain tells no rate are of no interest
abbrev pub is_told : Known → RateCount → Bool
is_told known c = is_some c.rate || is_some (rate_of_domain known c.domain)

abbrev pub told_counts : Known → List RateCount → List RateCount
told_counts known counts = filter (is_told known) counts

pub record IsReportOf (known : Known) (n : Noted) (report : SamplingReport) : Type 0 where
  pub rates_are : report.rates.items ≡ told_counts known n.rates
  pub sampled_is : report.is_sampled ≡ (n.has_sampled || list_any (λ c. is_late_sampled known c) n.rates)
  pub unrated_is : report.is_unrated ≡ list_any (λ c. is_some (late_rate known c)) n.rates
  pub too_large_is : report.is_too_large ≡ n.has_too_large

-- that of nothing
pub record IsEmpty (report : SamplingReport) : Type 0 where
  pub rates_are : report.rates.items ≡ []
  pub sampled_is : report.is_sampled ≡ false
  pub unrated_is : report.is_unrated ≡ false
  pub too_large_is : report.is_too_large ≡ false

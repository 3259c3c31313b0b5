-- The lines of how many flows have which rate of sampling (RFC 5476, section 6.5.2).
use Rattle.std.specs.Prelude.{ℕ, List, [], ◌++◌, codes, decimal, if◌then◌else◌, Option, Some, None}
use Rattle.std.specs.List.{flat_map, enumerate_from}
use Rattle.exporter_options.specs.declared.sampling.Rate.{Rate}
use Rattle.flow_estimates.specs.declared.rate_notes.RateCount.{RateCount}
use Rattle.flow_estimates.specs.declared.report.SamplingReport.{SamplingReport}
use Rattle.report_sessions.specs.ToldLines.{origin_of}
use Rattle.report_writing.specs.Origins.{session_start, tells_balances}
use Rattle.report_writing.specs.declared.origin.Origin.{Origin}
use Rattle.report_writing.specs.declared.verbosity.Verbosity.{Verbosity}

-- so many packets were selected, of so many, where these flows were counted
unfoldable pub sampled_text : ℕ → Rate → ℕ → List ℕ
sampled_text domain rate records =
    codes ": domain " ++ (decimal domain ++ (codes ": sampled " ++ (decimal rate.selected ++ (codes " of " ++ (decimal rate.population ++ (codes " (records " ++ (decimal records ++ codes ")\n")))))))

-- flows without a rate, of a domain that has one at the session's end
unfoldable pub unrated_text : ℕ → ℕ → List ℕ
unrated_text domain records = codes ": domain " ++ (decimal domain ++ (codes ": unrated (records " ++ (decimal records ++ codes ")\n")))

abbrev pub count_text : ℕ → Option Rate → ℕ → List ℕ
count_text domain None records = unrated_text domain records
count_text domain (Some rate) records = sampled_text domain rate records

-- with the rate and the domain of what was counted
abbrev pub rate_text : RateCount → List ℕ
rate_text c = count_text c.domain c.rate c.records

abbrev pub rate_line : ℕ → Origin → RateCount → List ℕ
rate_line session origin c = session_start session origin ++ rate_text c

-- a line a rate, in their order
abbrev pub rate_lines : ℕ → Origin → List RateCount → List ℕ
rate_lines session origin rates = flat_map (rate_line session origin) rates

-- in the order of the report: the rate that was counted last first
abbrev pub session_sampling : ℕ → Origin → SamplingReport → List ℕ
session_sampling session origin report = rate_lines session origin report.rates.items

-- with the origin that has its place
abbrev pub sampling_at : List Origin → ℕ → SamplingReport → List ℕ
sampling_at origins session report = session_sampling session (origin_of origins session) report

-- the sessions in order, counted from 1
abbrev pub sampling_lines : List Origin → List SamplingReport → List ℕ
sampling_lines origins reports = flat_map (λ x. sampling_at origins x.0 x.1) (enumerate_from 1 reports)

-- the same, if either option asks for it
abbrev pub sampling_told : Verbosity → List Origin → List SamplingReport → List ℕ
sampling_told verbosity origins reports = if tells_balances verbosity then sampling_lines origins reports else []

-- When sampling leaves a run spotless: no counter of the table is known to be a part of what was sent.
use Rattle.std.specs.Prelude.{◌≡◌, Bool, false, List, All}
use Rattle.flow_estimates.specs.declared.report.SamplingReport.{SamplingReport}

-- of sessions, whose flows are scaled or not
pub record IsSamplingSpotless (is_scaled : Bool) (reports : List SamplingReport) : Type 0 where
  -- no flow lacks the rate that its domain has at the session's end
  pub none_unrated : All (λ (report : SamplingReport). report.is_unrated ≡ false) reports
  -- and where they are not scaled, none was sampled
  pub none_sampled : is_scaled ≡ false → All (λ (report : SamplingReport). report.is_sampled ≡ false) reports

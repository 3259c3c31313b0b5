use Rattle.std.proofs.Common.{rules}
use Rattle.std.proofs.lemmas.Fn.{filter_same}
use Rattle.flow_estimates.specs.Noted.{is_told}
use Rattle.flow_estimates.specs.declared.rate_notes.RateCount.{RateCount}
use Rattle.flow_estimates.proofs.report.told_of.Goals as goal

pub returns : goal.returns
returns c = filter_same _ (λ (k : RateCount). is_told c.args.told.now.known k) _ (λ x b f' k. search rules) _ _ c.retain.ensures.filtered

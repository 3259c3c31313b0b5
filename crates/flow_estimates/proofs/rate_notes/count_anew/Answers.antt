use Rattle.std.proofs.Common.{rules, not, ap, ◌∙◌, ◌∷◌, take, filter}
use Rattle.std.proofs.lemmas.Fn.{filter_same}
use Rattle.exporter_options.proofs.Numbers.{kept_front}
use Rattle.flow_estimates.specs.Noted.{is_of, one_more}
use Rattle.flow_estimates.specs.declared.rate_notes.RateCount.{RateCount}
use Rattle.flow_estimates.proofs.rate_notes.count_anew.Goals as goal

pub returns-clause-counted : goal.returns-clause-counted
returns-clause-counted c =
    let others = λ (k : RateCount). not (is_of c.args.domain c.args.rate k) in
    let kept = filter_same _ others _ (λ x b f' k. search rules) _ _ c.retain.ensures.filtered in
    kept_front others (record { domain = c.args.domain; rate = c.args.rate; records = c.saturating_add-records.result }) 2047 c.args.counts.now.items _ _ _ kept c.truncate.ensures.items c.push_front_reserved.ensures.items
    ∙ ap (λ n. record { domain = c.args.domain; rate = c.args.rate; records = n } ∷ take 2047 (filter others c.args.counts.now.items)) (c.saturating_add-records.ensures ∙ ap one_more c.records_of.ensures)

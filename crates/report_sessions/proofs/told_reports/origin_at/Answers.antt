use Rattle.std.proofs.Common.{ap, sym}
use Rattle.std.specs.Prelude.{◌-◌, unwrap_or}
use Rattle.std.proofs.lemmas.Option.{slice_get_past}
use Rattle.report_writing.specs.declared.origin.Origin.TheVariants.{Unknown}
use Rattle.report_sessions.proofs.told_reports.origin_at.Goals as goal

pub returns-in-None : goal.returns-in-None
returns-in-None c =
    let a = c.args in
    let past = rw c.saturating_sub.ensures at c.in-None.ensures.lookup.3 in
    sym (ap (λ o. unwrap_or o Unknown) (slice_get_past a.origins.now (a.session - 1) past))

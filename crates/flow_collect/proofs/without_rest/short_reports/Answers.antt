use Rattle.std.proofs.Common.{◌≡◌, List, ◌∷◌, ◌++◌, [], refl, sym, ap, ◌∙◌, arith}
use Rattle.std.proofs.lemmas.List.{map_push}
use Rattle.ipfix_session.specs.declared.report.FullReport.{FullReport}
use Rattle.flow_collect.specs.InFull.{fulls_in, reports_in}
use Rattle.flow_collect.specs.declared.collected.FilteredReport.{FilteredReport}
use Rattle.flow_collect.proofs.ZipLists.{split_on, all_used}
use Rattle.flow_collect.proofs.without_rest.short_reports.Goals as goal

pub loop-told-init : goal.loop-told-init
loop-told-init c = ([], refl, c.new-reports.ensures.items)

one_more : (done : List FilteredReport) (told : FilteredReport) → reports_in (fulls_in (done ++ told ∷ [])) ≡ reports_in (fulls_in done) ++ told.full.report ∷ []
one_more done told =
    ap reports_in (map_push (λ (told : FilteredReport). told.full) done told) ∙ map_push (λ (full : FullReport). full.report) (fulls_in done) told.full

pub loop-told-preserved : goal.loop-told-preserved
loop-told-preserved c =
    let inv = c.loop-told.invariant in (
      inv.0 ++ c.in-Some.told ∷ [],
      split_on _ inv.0 _ _ _ inv.1 c.in-Some.ensures.items,
      c.in_ok-push.ensures.items ∙ ap (λ r. c.loop-told.reports.items ++ r ∷ []) c.report_of.ensures ∙ ap (λ rs. rs ++ c.in-Some.told.full.report ∷ []) inv.2 ∙ sym (one_more inv.0 c.in-Some.told),
    )

pub returns : goal.returns
returns c =
    let inv = c.loop-told.invariant in
    let all = λ (reports : List FilteredReport). reports_in (fulls_in reports) in
    inv.2 ∙ ap all (sym (all_used _ inv.0 _ inv.1 (omega (arith, c.loop-told.waiting.ok.0, c.in_default.ensures.cases)))) ∙ ap all c.from_vec-waiting.ensures.items

use Rattle.std.proofs.Common.{◌∷◌, [], ◌∙◌, subst}
use Rattle.std.specs.Prelude.{IfOk}
use Rattle.flow_table.specs.Fitting.{FitsPlan}
use Rattle.flow_table.specs.Plans.{PlanValue}
use Rattle.flow_table.specs.Tables.{IsTable}
use Rattle.flow_table_tests.proofs.tests.calling.table_of_both.Goals as goal

pub returns-clause-table : goal.returns-clause-table
returns-clause-table c =
    let one = c.in_ok-add.ensures.adds [] c.in_ok-all.ensures.empty in
    let other = c.in_ok-add-2.ensures.adds [] c.in_ok-more.ensures.empty in
    let both = c.in_ok-merge.ensures.merges _ _ one other in
    let plan = c.in_ok-merge.ensures.plan ∙ (c.in_ok-add.ensures.plan ∙ c.in_ok-all.ensures.plan) in
    subst (λ (p : PlanValue). IfOk c.finish.result (IsTable p (c.args.one.now ∷ c.args.other.now ∷ []))) plan
    (c.finish.ensures.table _ both)

pub returns-clause-fits : goal.returns-clause-fits
returns-clause-fits c =
    let one = c.in_ok-add.ensures.adds [] c.in_ok-all.ensures.empty in
    let other = c.in_ok-add-2.ensures.adds [] c.in_ok-more.ensures.empty in
    let both = c.in_ok-merge.ensures.merges _ _ one other in
    let plan = c.in_ok-merge.ensures.plan ∙ (c.in_ok-add.ensures.plan ∙ c.in_ok-all.ensures.plan) in
    subst (λ (p : PlanValue). IfOk c.finish.result (FitsPlan p)) plan (c.finish.ensures.fits _ both)

use Rattle.std.proofs.Common.{[], ◌∙◌, ap, subst}
use Rattle.std.specs.Prelude.{IfOk}
use Rattle.ipfix_session.specs.Sources.{SourceView}
use Rattle.flow_table.specs.Fitting.{FitsPlan}
use Rattle.flow_table.specs.Plans.{PlanValue}
use Rattle.command_tables.proofs.TablesIn.{cannot_merge, is_table_if, passed_on}
use Rattle.command_tables.proofs.texts.merged.table_in.Goals as goal

pub returns-in_err-merging-2-clause-fault : goal.returns-in_err-merging-2-clause-fault
returns-in_err-merging-2-clause-fault c =
    passed_on c.from_residual-in_err-merging-2.result c.in_err-merging-2.field-0.0 _ c.from_residual-in_err-merging-2.ensures.1
    (cannot_merge c.args.plan.now c.args.octets.now c.in_ok-merging.merging c.new-source.result c.add_source.new.source c.in_err-merging-2.field-0.0 c.in_ok-merging.ensures.plan
    c.in_ok-merging.ensures.intervals c.new-source.ensures.unread (c.in_err-merging-2.ensures.fault [] c.in_ok-merging.ensures.empty))

pub returns-clause-ok : goal.returns-clause-ok
returns-clause-ok c =
    is_table_if c.in_ok-merging.merging c.in_ok-merging-2.merging c.args.plan.now c.args.octets.now c.finish.result c.in_ok-merging.ensures.plan c.in_ok-merging.ensures.intervals
    (c.in_ok-merging-2.ensures.adds c.args.octets.now (ap (λ (v : SourceView). v.text) c.new-source.ensures.unread) [] c.in_ok-merging.ensures.empty) c.finish.ensures.rows

pub returns-clause-fits : goal.returns-clause-fits
returns-clause-fits c =
    let adds = c.in_ok-merging-2.ensures.adds c.args.octets.now (ap (λ (v : SourceView). v.text) c.new-source.ensures.unread) [] c.in_ok-merging.ensures.empty in
    subst (λ (p : PlanValue). IfOk c.finish.result (FitsPlan p)) (c.in_ok-merging-2.ensures.plan ∙ c.in_ok-merging.ensures.plan) (c.finish.ensures.fits adds.more adds.stands)

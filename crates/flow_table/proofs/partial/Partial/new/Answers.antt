use Rattle.std.proofs.Common.{refl, subst, sym}
use Rattle.flow_table.specs.Plans.{PlanValue}
use Rattle.flow_table.specs.Rows.{AreRowsOf}
use Rattle.flow_table.specs.Partials.{plan_of, fault_of, StandsFor}
use Rattle.flow_table.proofs.Kept.{none_kept}
use Rattle.flow_table.proofs.Holding.{holds_none}
use Rattle.flow_table.proofs.Lacking.{missing_of-none}
use Rattle.flow_table.proofs.partial.Partial.new.Goals as goal

pub returns-clause-plan : goal.returns-clause-plan
unfolding plan_of
returns-clause-plan c = c.in_ok-copy.ensures

pub returns-clause-fault : goal.returns-clause-fault
unfolding fault_of
returns-clause-fault c = refl

pub returns-clause-empty : goal.returns-clause-empty
unfolding StandsFor
returns-clause-empty c =
    let of_plan : AreRowsOf c.in_ok-copy.field-0 c.new.result = subst (λ (p : PlanValue). AreRowsOf p c.new.result) (sym c.in_ok-copy.ensures) c.new.ensures.rows in
    (holds_none c.in_ok-copy.field-0 c.new.result of_plan (none_kept c.in_ok-copy.field-0 c.new.result c.new.ensures.none), λ none. sym (missing_of-none c.in_ok-copy.field-0), λ large. absurd cc)

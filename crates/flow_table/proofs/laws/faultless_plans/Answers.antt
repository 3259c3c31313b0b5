use Rattle.std.proofs.Common.{List, subst, sym}
use Rattle.ipfix_elements.specs.declared.kind.Kind.{Kind}
use Rattle.flow_table.specs.Plans.{IsPlan, plan_with}
use Rattle.flow_table.proofs.MadePlans.{is_plan}
use Rattle.flow_table.proofs.laws.faultless_plans.Goals as goal

pub returns : goal.returns
returns c = λ known plan none of.
    subst (λ (kinds : List Kind). IsPlan (plan_with plan.length plan.method plan.keys kinds plan.counters plan.max_spread plan.choices)) (sym of)
    (is_plan known plan.choices plan.length plan.method plan.keys plan.counters plan.max_spread none)

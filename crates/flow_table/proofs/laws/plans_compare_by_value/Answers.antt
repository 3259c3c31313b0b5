use Rattle.flow_table.specs.SamePlanLaws.{same_plan-tells}
use Rattle.flow_table.proofs.laws.plans_compare_by_value.Goals as goal

pub returns : goal.returns
returns c = same_plan-tells

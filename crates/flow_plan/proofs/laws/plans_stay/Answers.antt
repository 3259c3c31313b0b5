use Rattle.flow_plan.proofs.Kept.{text_kept}
use Rattle.flow_plan.proofs.laws.plans_stay.Goals as goal

pub returns : goal.returns
returns c = text_kept

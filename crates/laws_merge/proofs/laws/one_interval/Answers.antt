use Rattle.flow_merge.proofs.AroundBorders.{same_interval}
use Rattle.laws_merge.proofs.laws.one_interval.Goals as goal

pub returns : goal.returns
returns c = λ borders start end ordered k j. same_interval borders k j start end ordered

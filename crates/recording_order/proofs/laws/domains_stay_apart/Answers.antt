use Rattle.recording_order.proofs.Apart.{step-leaves}
use Rattle.recording_order.proofs.laws.domains_stay_apart.Goals as goal

pub returns : goal.returns
returns c = step-leaves

use Rattle.recording_peer.proofs.FieldsLeft.{says_in_force}
use Rattle.recording_peer.proofs.laws.has_template_in_force.Goals as goal

pub returns : goal.returns
returns c = λ s first after filed p. says_in_force first after s filed p

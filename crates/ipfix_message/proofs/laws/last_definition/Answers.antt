use Rattle.ipfix_message.proofs.LastDefinition.{in_force-found, in_force-only}
use Rattle.ipfix_message.proofs.laws.last_definition.Goals as goal

pub returns : goal.returns
returns c = λ es id t. (in_force-found es id t, λ h. in_force-only es id t h.0 h.1)

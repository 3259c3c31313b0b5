use Rattle.std.proofs.Common.{refl}
use Rattle.ipfix_elements.specs.Elements.{elements}
use Rattle.flow_export.proofs.laws.examples.one_flow_as_ipfix.Goals as goal

pub returns-clause-address : goal.returns-clause-address
unfolding elements
returns-clause-address c = refl

pub returns-clause-prefix : goal.returns-clause-prefix
unfolding elements
returns-clause-prefix c = refl

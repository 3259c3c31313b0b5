use Rattle.std.proofs.Common.{refl}
use Rattle.flow_table.specs.Partials.{fault_of}
use Rattle.flow_table.proofs.partial.Partial.fault.Goals as goal

pub returns : goal.returns
unfolding fault_of
returns c = refl

use Rattle.std.proofs.Common.{◌∙◌}
use Rattle.command_explain.proofs.Named.{each}
use Rattle.command_explain.proofs.explaining.fault_named.Goals as goal

pub returns-clause-each : goal.returns-clause-each
returns-clause-each c = λ fault is. c.named_fault.ensures ∙ each _ fault is

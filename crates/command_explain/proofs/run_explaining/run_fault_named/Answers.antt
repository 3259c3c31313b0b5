use Rattle.std.proofs.Common.{◌∙◌}
use Rattle.command_explain.proofs.RunNamed.{each}
use Rattle.command_explain.proofs.run_explaining.run_fault_named.Goals as goal

pub returns-clause-each : goal.returns-clause-each
returns-clause-each c = λ fault is. c.named_run_fault.ensures ∙ each _ fault is

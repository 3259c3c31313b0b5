use Rattle.std.proofs.Common.{arith}
use Rattle.ipfix_wire.proofs.Written.{spec_spelled, spec_again}
use Rattle.ipfix_wire.proofs.specifier.write_spec.Goals as goal

pub returns-clause-spelled : goal.returns-clause-spelled
returns-clause-spelled c = spec_spelled c.args.spec.now (omega arith) c.requires (omega arith)

pub returns-clause-again : goal.returns-clause-again
returns-clause-again c = λ more. spec_again c.args.spec.now more (omega arith) c.requires (omega arith)

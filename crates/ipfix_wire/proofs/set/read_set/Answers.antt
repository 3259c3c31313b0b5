use Rattle.std.proofs.Common.{arith}
use Rattle.ipfix_wire.proofs.Octets.{set_spelled}
use Rattle.ipfix_wire.proofs.set.read_set.Goals as goal

pub returns-clause-found : goal.returns-clause-found
returns-clause-found c =
    (omega arith, omega arith, omega arith, set_spelled c.args.rest.now c.u16_at-2.result c.from-length.result (λ i. omega (arith, c.type_inv.rest i)) (omega arith) (omega arith) (omega arith) (omega arith))

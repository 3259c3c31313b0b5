use Rattle.std.proofs.Common.{ap, Ok, arith}
use Rattle.ipfix_wire.specs.declared.header.Header.{Header}
use Rattle.ipfix_wire.proofs.Octets.{header_spelled, header_again}
use Rattle.ipfix_wire.proofs.header.read_header.Goals as goal

pub returns-clause-found : goal.returns-clause-found
returns-clause-found c = (
  record { length = omega arith; covers = omega arith; export_time = omega arith; sequence = omega arith; domain = omega arith },
  header_spelled c.args.octets.now _ _ _ _ (λ i. omega (arith, c.type_inv.octets i)) c.requires (omega arith) c.u16_at-length.ensures c.u32_at.ensures c.u32_at-2.ensures c.u32_at-3.ensures,
)

pub returns-clause-only : goal.returns-clause-only
returns-clause-only c = λ h rest fits e. ap (λ (v : Header). Ok v) (header_again h rest c.args.octets.now _ _ _ _ fits e c.u16_at-length.ensures c.u32_at.ensures c.u32_at-2.ensures c.u32_at-3.ensures)

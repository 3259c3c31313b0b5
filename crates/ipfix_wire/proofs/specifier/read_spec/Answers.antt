use Rattle.std.proofs.Common.{arith}
use Rattle.ipfix_wire.specs.Numbers.{IsOctets}
use Rattle.ipfix_wire.proofs.FieldSpecifiers.{short_found, long_found}
use Rattle.ipfix_wire.proofs.specifier.read_spec.Goals as goal

pub returns-then-first-lt-ENTERPRISE_BIT-clause-found : goal.returns-then-first-lt-ENTERPRISE_BIT-clause-found
returns-then-first-lt-ENTERPRISE_BIT-clause-found c =
    let fits : IsOctets c.args.rest.now = λ i. omega (arith, c.type_inv.rest i) in
    let at = short_found c.args.rest.now c.u16_at-first.result c.u16_at-width.result fits (omega arith) c.u16_at-first.ensures c.u16_at-width.ensures (omega arith) in
    (at.room, rw c.iana-element.ensures at.is)

pub returns-clause-found : goal.returns-clause-found
returns-clause-found c =
    let fits : IsOctets c.args.rest.now = λ i. omega (arith, c.type_inv.rest i) in
    let at = long_found c.args.rest.now c.u16_at-first.result c.u16_at-width.result c.u32_at.result fits (omega arith) c.u16_at-first.ensures c.u16_at-width.ensures c.u32_at.ensures (omega arith) in
    (at.room, at.is)

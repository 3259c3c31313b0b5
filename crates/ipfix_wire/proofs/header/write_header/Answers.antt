use Rattle.std.proofs.Common.{arith, rules}
use Rattle.ipfix_wire.proofs.Octets.{header_written}
use Rattle.ipfix_wire.proofs.Written.{header_again}
use Rattle.ipfix_wire.proofs.header.write_header.Goals as goal

pub returns-clause-ok : goal.returns-clause-ok
returns-clause-ok c =
    let written = header_written c.args.header.now.length c.args.header.now.export_time c.args.header.now.sequence c.args.header.now.domain
    c.write_u16.new.buf c.write_u16-2.new.buf c.write_u32.new.buf c.write_u32-2.new.buf c.write_u32-3.new.buf
    c.write_u16.ensures c.write_u16-2.ensures c.write_u32.ensures c.write_u32-2.ensures c.write_u32-3.ensures in
    rw (← written) (search rules)

pub returns-clause-again : goal.returns-clause-again
returns-clause-again c = λ covers more. header_again c.args.header.now more covers (omega arith) (omega arith) (omega arith) (omega arith)

use Rattle.std.proofs.Common.{arith, rules}
use Rattle.ipfix_elements.proofs.CellLemmas.{wide_written}
use Rattle.ipfix_elements.proofs.cell.write_number.Goals as goal

pub returns-in-Ok-clause-ok : goal.returns-in-Ok-clause-ok
returns-in-Ok-clause-ok c =
    wide_written c.args.out.now.items c.resize.new.self.items c.extend_from_slice-2.new.self.items c.to_be_bytes-octets.result c.len-start.result _ c.args.width c.args.number
    (omega (arith, c.args.out.now.ok.0)) c.args.out.now.ok.0 (omega arith) (omega arith) c.to_be_bytes-octets.ensures (search rules) c.in-Ok.ensures.items

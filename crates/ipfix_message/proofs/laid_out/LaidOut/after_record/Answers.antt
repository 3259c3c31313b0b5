use Rattle.std.proofs.Common.{arith}
use Rattle.ipfix_wire.specs.Numbers.{IsOctets}
use Rattle.ipfix_message.proofs.Layouts.{layout_gives, layout_short}
use Rattle.ipfix_message.proofs.laid_out.LaidOut.after_record.Goals as goal

pub returns-clause-gives : goal.returns-clause-gives
returns-clause-gives c =
    rw (← c.self.view_is) (layout_gives (λ r. r.now) c.self.inside.layout c.self.inside.template.specs c.args.octets.now c.after_record.result c.ok_or.result c.self.invariant c.ok_or.ensures.value c.after_record.ensures)

pub returns-clause-short : goal.returns-clause-short
returns-clause-short c =
    let fits : IsOctets c.args.octets.now = λ i. omega (arith, c.type_inv.octets i) in
    rw (← c.self.view_is) (layout_short (λ r. r.now) c.self.inside.layout c.self.inside.template.specs c.args.octets.now c.after_record.result c.ok_or.result c.self.invariant c.ok_or.ensures.value c.after_record.ensures fits)

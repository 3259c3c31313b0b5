use Rattle.std.proofs.Common.{append_assoc, arith}
use Rattle.std.proofs.lemmas.Fmt.{decimal_digit}
use Rattle.itoa.proofs.Decimal.{decimal_two}
use Rattle.ipfix_elements.proofs.Written.{decimal_three}
use Rattle.ipfix_elements.proofs.text.push_decimal.Goals as goal

pub returns-then-octet-lt10-clause-items : goal.returns-then-octet-lt10-clause-items
returns-then-octet-lt10-clause-items c = rw (decimal_digit c.args.octet c.if-octet-lt10.true) c.push.ensures.items

pub returns-then-octet-lt100-clause-items : goal.returns-then-octet-lt100-clause-items
returns-then-octet-lt100-clause-items c =
    let first = c.push-then-octet-lt100.ensures.items in
    rw (c.push-then-octet-lt100-2.ensures.items, first, decimal_two c.args.octet (omega arith) c.if-octet-lt100.true) (simp append_assoc)

pub returns-else-octet-lt100-clause-items : goal.returns-else-octet-lt100-clause-items
returns-else-octet-lt100-clause-items c =
    rw (c.push-else-octet-lt100-3.ensures.items, c.push-else-octet-lt100-2.ensures.items, c.push-else-octet-lt100.ensures.items, decimal_three c.args.octet (omega arith) (omega arith)) (simp append_assoc)

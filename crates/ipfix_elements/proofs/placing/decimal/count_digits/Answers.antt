use Rattle.std.proofs.Common.{ap, sym, length, arith, rules}
use Rattle.std.proofs.lemmas.Fmt.{decimal_digit}
use Rattle.ipfix_elements.proofs.Digits.{length-decimal}
use Rattle.ipfix_elements.proofs.placing.decimal.count_digits.Goals as goal

pub returns-then-number-eq0-clause-count : goal.returns-then-number-eq0-clause-count
returns-then-number-eq0-clause-count c = sym (ap length (decimal_digit c.args.number (omega arith)))

pub returns-else-number-eq0-clause-count : goal.returns-else-number-eq0-clause-count
returns-else-number-eq0-clause-count c = length-decimal _ c.args.number c.ilog10.ensures.power_le c.ilog10.ensures.next_power_gt (search rules)

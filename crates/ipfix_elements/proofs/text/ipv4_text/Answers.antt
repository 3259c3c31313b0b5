use Rattle.std.proofs.Common.{rules, arith}
use Rattle.ipfix_elements.proofs.Written.{dotted_text}
use Rattle.ipfix_elements.proofs.text.ipv4_text.Goals as goal

pub returns : goal.returns
returns c = let whole = dotted_text c.args.address.now (omega arith) in rw (← whole) (search rules)

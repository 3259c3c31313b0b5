use Rattle.std.proofs.Common.{arith}
use Rattle.flow_rows.proofs.Added.{added_done}
use Rattle.flow_rows.proofs.piece.add_numbers.Goals as goal

pub returns : goal.returns
returns c = added_done c.args.sums.now c.args.more.now c.loop-i.sums (omega arith) (omega arith) (λ k l. c.loop-i.invariant.done k (omega arith))

use Rattle.std.proofs.Common.{arith, sym}
use Rattle.flow_table.proofs.WordSteps.{one_left}
use Rattle.flow_table.proofs.words.share_word.Goals as goal

pub returns-then-place-kinds : goal.returns-then-place-kinds
returns-then-place-kinds c = sym (one_left c.args.kinds.now c.args.place (omega arith))

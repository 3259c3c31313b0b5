use Rattle.std.proofs.Common.{◌∷◌, arith}
use Rattle.flow_table.proofs.CellWords.{padded_done}
use Rattle.flow_table.proofs.words.padded_words.Goals as goal

pub returns : goal.returns
returns g c = padded_done _ (c.args.first ∷ c.args.others.now) c.loop-i.words c.loop-i.invariant.long (λ k l. c.loop-i.invariant.done k (omega arith))

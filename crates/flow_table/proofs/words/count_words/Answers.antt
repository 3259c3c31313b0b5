use Rattle.std.proofs.Common.{arith}
use Rattle.flow_table.specs.Words.{word_count}
use Rattle.flow_table.proofs.WordSteps.{count_more}
use Rattle.flow_table.proofs.words.count_words.Goals as goal

pub loop-kind-preserved : goal.loop-kind-preserved
loop-kind-preserved c = record {
  so_far = count_more c.args.kinds.now c.loop-kind.kind-index _ c.loop-kind.waits _ c.loop-kind.count _ (word_count c.args.kinds.now) (omega arith) c.words_begun-count.ensures.value c.waits_after-waits.ensures c.loop-kind.invariant.so_far;
  few = omega arith;
}

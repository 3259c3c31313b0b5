use Rattle.std.proofs.Common.{ap, length, arith, rules}
use Rattle.flow_table.specs.Words.{word_count}
use Rattle.flow_table.proofs.Kept.{none_of_plan}
use Rattle.flow_table.proofs.WordSteps.{kinds_few, words_few}
use Rattle.flow_table.proofs.rows.Rows.new.Goals as goal

pub count_words-words-requires : goal.count_words-words-requires
count_words-words-requires c = omega (arith, ap length c.kinds.ensures.value, kinds_few c.args.plan.now c.counters.ensures.sound)

pub overflow_add-words : goal.overflow_add-words
overflow_add-words c = omega (arith, c.count_words-words.ensures, ap word_count c.kinds.ensures.value, words_few c.args.plan.now c.counters.ensures.sound)

pub returns-else-words-le9-clause-rows : goal.returns-else-words-le9-clause-rows
returns-else-words-le9-clause-rows c =
    none_of_plan c.args.plan.now _ (omega (arith, words_few c.args.plan.now c.counters.ensures.sound)) (omega (arith, c.counters.ensures.few, ap length c.counters.ensures.value)) (search rules)

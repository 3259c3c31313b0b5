use Rattle.std.proofs.Common.{◌≡◌, ◌+◌, ◌*◌, ◌≤◌, cond, drop}
use Rattle.flow_table.specs.Words.{word_count}
use Rattle.flow_table.proofs.WordSteps.{left_count}
use Rattle.flow_table.proofs.words.count_words.Given as goal

abbrev pub invariant-loop-kind : goal.invariant-loop-kind
invariant-loop-kind l = record {
  so_far : l.count + left_count l.waits (drop l.kind-index l.kinds) ≡ word_count l.kinds + cond l.waits 1 0;
  few : l.count ≤ 2 * l.kind-index;
}

use Rattle.std.proofs.Common.{◌≡◌, ◌*◌, drop}
use Rattle.std.specs.Ordering.{ordering_then}
use Rattle.flow_rows.specs.Rows.{words_cmp}
use Rattle.flow_rows.proofs.numbers.order_words.Given as goal

abbrev pub invariant-loop-i : goal.invariant-loop-i
invariant-loop-i l = words_cmp l.a l.b ≡ ordering_then l.order (words_cmp (drop (2 * l.i) l.a) (drop (2 * l.i) l.b))

use Rattle.std.proofs.Common.{◌≡◌, ℕ, ◌<◌, ◌∷◌, length, get_or}
use Rattle.flow_table.proofs.words.padded_words.Given as goal

abbrev pub invariant-loop-i : goal.invariant-loop-i
invariant-loop-i g l = record {
  long : length l.words ≡ g.row.N;
  done : (k : ℕ) → k < l.i → get_or l.words k 0 ≡ get_or (l.first ∷ l.others) k 0;
}

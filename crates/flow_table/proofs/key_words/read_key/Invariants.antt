use Rattle.std.proofs.Common.{◌≡◌, ℕ, ◌+◌, drop, option_map}
use Rattle.flow_table.specs.Missing.{first_without}
use Rattle.flow_table.proofs.KeyCells.{FirstKeys}
use Rattle.flow_table.proofs.key_words.read_key.Given as goal

-- the words of the keys so far; the first key that the record lacks is among those that are left
abbrev pub invariant-loop-place : goal.invariant-loop-place
invariant-loop-place l = record {
  place : first_without l.keys l.kinds l.data_record ≡ option_map (λ (k : ℕ). l.place + k) (first_without (drop l.place l.keys) (drop l.place l.kinds) l.data_record);
  words : FirstKeys l.keys l.kinds l.data_record l.place l.half l.words.items;
}

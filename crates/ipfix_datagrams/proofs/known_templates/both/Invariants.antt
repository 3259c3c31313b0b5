use Rattle.std.proofs.Common.{◌≡◌, ℕ, take, eqb}
use Rattle.std.specs.Prelude.{◌||◌}
use Rattle.std.specs.List.{IsDistinct, list_any}
use Rattle.ipfix_datagrams.proofs.known_templates.both.Given as goal

abbrev pub invariant-loop-id : goal.invariant-loop-id
invariant-loop-id l = record {
  once : IsDistinct eqb l.ids → IsDistinct eqb l.all.items;
  all : (q : ℕ) → list_any (λ b. eqb b q) l.all.items ≡ (list_any (λ b. eqb b q) l.ids || list_any (λ b. eqb b q) (take l.id-index l.more));
}

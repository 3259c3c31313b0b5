use Rattle.std.proofs.Common.{◌≡◌, ◌++◌, length, map}
use Rattle.std.specs.Prelude.{string_bytes}
use Rattle.cli_inputs.proofs.plan_maps.words_of.Given as goal

-- the words, and the texts that are left
abbrev pub invariant-loop-texts : goal.invariant-loop-texts
invariant-loop-texts l = map (λ w. w.now) l.words.items ++ map string_bytes l.texts ≡ map string_bytes l.initial.texts

abbrev pub decreases-loop-texts : goal.decreases-loop-texts
decreases-loop-texts l = length l.texts

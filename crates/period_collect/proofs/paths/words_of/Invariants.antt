use Rattle.std.proofs.Common.{◌≡◌, ℕ, List, map, take, string_bytes}
use Rattle.std.specs.Borrow.{Bor}
use Rattle.period_collect.proofs.paths.words_of.Given as goal

-- so far
abbrev pub invariant-loop-path : goal.invariant-loop-path
invariant-loop-path l = map (λ (w : Bor (List ℕ)). w.now) l.words.items ≡ map string_bytes (take l.path-index l.paths)

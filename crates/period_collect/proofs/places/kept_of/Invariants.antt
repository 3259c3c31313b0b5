use Rattle.std.proofs.Common.{◌≡◌, ℕ, List, map, take}
use Rattle.std.specs.Borrow.{Bor}
use Rattle.period_collect.specs.LeftOutFiles.{kept_of}
use Rattle.period_collect.proofs.places.kept_of.Given as goal

-- so far
abbrev pub invariant-loop-place : goal.invariant-loop-place
invariant-loop-place l = map (λ (w : Bor (List ℕ)). w.now) l.kept.items ≡ kept_of l.out (map (λ (w : Bor (List ℕ)). w.now) (take l.place l.paths))

use Rattle.std.proofs.Common.{◌≡◌, ℕ, List, map, take, string_bytes}
use Rattle.std.specs.Borrow.{Bor}
use Rattle.period_collect.specs.LeftOutFiles.{paths_at}
use Rattle.period_collect.proofs.places.names_at.Given as goal

-- so far
abbrev pub invariant-loop-place : goal.invariant-loop-place
invariant-loop-place l = map string_bytes l.names.items ≡ paths_at (take l.place-index l.out) (map (λ (w : Bor (List ℕ)). w.now) l.paths)

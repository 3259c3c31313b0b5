use Rattle.std.proofs.Common.{◌≡◌, ℕ, List, length, map, take}
use Rattle.std.specs.Borrow.{Bor}
use Rattle.period_collect.specs.LeftOutFiles.{Alone}
use Rattle.period_collect.specs.Parting.{AreAlone, AreOwn}
use Rattle.period_collect.proofs.parting.own_tables.Given as goal

-- so far
abbrev pub invariant-loop-place : goal.invariant-loop-place
invariant-loop-place g l =
    (alone : List Alone)
    × AreAlone l.initial.maker l.maker (map (λ (w : Bor (List ℕ)). w.now) (take l.place l.paths)) alone
    × (l.place ≡ length alone)
    × AreOwn l.initial.maker.job.collect.plan.now alone l.own
    × (l.maker.job ≡ l.initial.maker.job)

use Rattle.std.proofs.Common.{◌≡◌, ℕ, List, length, map, take}
use Rattle.std.specs.Borrow.{Bor}
use Rattle.period_collect.specs.LeftOutFiles.{Alone}
use Rattle.period_collect.specs.ManyRows.{AreLarge}
use Rattle.period_collect.specs.Parting.{AreAlone}
use Rattle.period_collect.proofs.large_files.large_files.Given as goal

-- so far
abbrev pub invariant-loop-place : goal.invariant-loop-place
invariant-loop-place g l =
    (alone : List Alone)
    × AreAlone l.initial.maker l.maker (map (λ (w : Bor (List ℕ)). w.now) (take l.place l.paths)) alone
    × (l.place ≡ length alone)
    × AreLarge l.initial.maker.job.collect.plan.now l.initial.maker.job.rows_of_a_session alone l.large.items
    × (l.maker.job ≡ l.initial.maker.job)

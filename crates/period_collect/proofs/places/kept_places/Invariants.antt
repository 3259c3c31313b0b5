use Rattle.std.proofs.Common.{◌≡◌}
use Rattle.period_collect.specs.LeftOutFiles.{places_kept}
use Rattle.period_collect.proofs.places.kept_places.Given as goal

-- so far
abbrev pub invariant-loop-place : goal.invariant-loop-place
invariant-loop-place l = l.kept.items ≡ places_kept l.out l.place

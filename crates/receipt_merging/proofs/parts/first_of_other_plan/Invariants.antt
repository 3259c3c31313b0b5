use Rattle.std.proofs.Common.{◌≡◌, map, take}
use Rattle.std.specs.Prelude.{All, true}
use Rattle.receipt_merging.specs.Parts.{PartValue, part_value}
use Rattle.receipt_merging.proofs.parts.first_of_other_plan.Given as goal

-- each so far passes
abbrev pub invariant-loop-place : goal.invariant-loop-place
invariant-loop-place l = All (λ (p : PartValue). p.has_plan ≡ true) (take l.place (map part_value l.parts))

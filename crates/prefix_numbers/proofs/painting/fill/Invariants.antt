use Rattle.std.proofs.Common.{◌<◌, ◌≤◌}
use Rattle.prefix_numbers.specs.Paints.{IsFilled}
use Rattle.prefix_numbers.proofs.painting.fill.Given as goal

-- up to this place the number is written
abbrev pub invariant-loop-place : goal.invariant-loop-place
invariant-loop-place l = record {
  filled : IsFilled l.first l.place l.number l.initial.numbers l.numbers;
  bounded : l.end < l.place → l.place ≤ l.first;
}

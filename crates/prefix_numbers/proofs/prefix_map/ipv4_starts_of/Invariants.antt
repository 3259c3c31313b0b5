use Rattle.std.proofs.Common.{◌≡◌, ◌^◌, ◌++◌, length}
use Rattle.std.specs.Prelude.{nat_lt}
use Rattle.std.specs.List.{take_while}
use Rattle.prefix_numbers.proofs.prefix_map.ipv4_starts_of.Given as goal

-- what is found and what is left give those of all
abbrev pub invariant-loop-starts : goal.invariant-loop-starts
invariant-loop-starts l =
    take_while (λ start. nat_lt start (2 ^ 32)) l.initial.starts ≡ l.found.items ++ take_while (λ start. nat_lt start (2 ^ 32)) l.starts

abbrev pub decreases-loop-starts : goal.decreases-loop-starts
decreases-loop-starts l = length l.starts

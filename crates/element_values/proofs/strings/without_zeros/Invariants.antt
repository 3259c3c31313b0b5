use Rattle.std.proofs.Common.{◌≡◌, length}
use Rattle.element_values.specs.Strings.{without_zeros as trimmed}
use Rattle.element_values.proofs.strings.without_zeros.Given as goal

abbrev pub invariant-loop-rest : goal.invariant-loop-rest
invariant-loop-rest l = trimmed l.rest ≡ trimmed l.octets

abbrev pub decreases-loop-rest : goal.decreases-loop-rest
decreases-loop-rest l = length l.rest

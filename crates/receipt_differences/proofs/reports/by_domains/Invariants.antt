use Rattle.std.proofs.Common.{◌≡◌, length}
use Rattle.std.specs.Cmp.Lexicographic.{slice_cmp}
use Rattle.receipt_differences.specs.Orders.{domain_cmp}
use Rattle.receipt_differences.proofs.reports.by_domains.Given as goal

-- what is left is ordered as all are
abbrev pub invariant-loop-domain : goal.invariant-loop-domain
invariant-loop-domain l = slice_cmp domain_cmp l.left l.rest ≡ slice_cmp domain_cmp l.initial.left l.initial.rest

abbrev pub decreases-loop-domain : goal.decreases-loop-domain
decreases-loop-domain l = length l.left

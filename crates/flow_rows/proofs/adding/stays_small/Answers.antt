use Rattle.std.proofs.Common.{arith, ap, get_or}
use Rattle.flow_rows.specs.Rows.{Row}
use Rattle.flow_rows.specs.Stacks.{held_total}
use Rattle.flow_rows.proofs.Additive.{get_or-added}
use Rattle.flow_rows.proofs.Totals.{stays_below}
use Rattle.flow_rows.proofs.adding.stays_small.Goals as goal

pub returns-then-bound-most-clause-small : goal.returns-then-bound-most-clause-small
returns-then-bound-most-clause-small g c =
    stays_below (held_total c.args.pile.now c.args.apart.now) c.args.piece.now c.requires.small
    (λ i. omega (arith, c.held-sums.ensures i, c.in-Some.ensures i, c.bound.ensures c.args.piece.now.key i, c.if-bound-most.true, rw c.in-Some.is at c.greatest_sum.type_inv))

pub returns-in-Some-greatest_sum-clause-small : goal.returns-in-Some-greatest_sum-clause-small
returns-in-Some-greatest_sum-clause-small g c =
    stays_below (held_total c.args.pile.now c.args.apart.now) c.args.piece.now c.requires.small
    (λ i. omega (arith, c.held-sums.ensures i, c.in_ok-usual.ensures.held i, ap (λ (x : Row). get_or x.numbers i 0) c.add.ensures, get_or-added c.held-sums.result.numbers c.in_ok-usual.usual.numbers i, c.in-Some-greatest_sum.ensures i, rw c.in-Some-greatest_sum.is at c.greatest_sum-2.type_inv))

pub returns-in-None-clause-small : goal.returns-in-None-clause-small
returns-in-None-clause-small g c =
    let h = c.in-None.ensures in
    let i = h.0 in
    (i, omega (arith, h.1, c.held-sums.ensures i, c.in_ok-usual.ensures.held i, ap (λ (x : Row). get_or x.numbers i 0) c.add.ensures, get_or-added c.held-sums.result.numbers c.in_ok-usual.usual.numbers i))

use Rattle.std.proofs.Common.{arith, ap, get_or}
use Rattle.flow_rows.specs.Rows.{Row}
use Rattle.flow_rows.proofs.Additive.{get_or-added}
use Rattle.flow_rows.proofs.held.add_found.Goals as goal

pub returns-in-Some : goal.returns-in-Some
returns-in-Some g c = λ i. omega (arith, ap (λ (x : Row). get_or x.numbers i 0) c.add.ensures, get_or-added c.args.sums.now.numbers c.in-Some.row.numbers i, c.in-Some.ensures i)

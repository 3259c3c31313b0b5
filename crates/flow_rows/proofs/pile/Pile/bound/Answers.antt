use Rattle.std.proofs.Common.{arith}
use Rattle.flow_rows.proofs.Totals.{seen}
use Rattle.flow_rows.proofs.pile.Pile.bound.Goals as goal

pub returns : goal.returns
returns g c = λ q i. omega (arith, c.self.invariant.within q i, seen c.self.inside.buffer.items c.self.inside.runs.items c.args.self.now q i c.self.view_is)

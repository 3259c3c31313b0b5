use Rattle.std.proofs.Common.{arith}
use Rattle.flow_rows.proofs.Totals.{seen}
use Rattle.flow_rows.proofs.table.FlatRows.bound.Goals as goal

pub returns-else-is_empty : goal.returns-else-is_empty
returns-else-is_empty g c = λ q i. omega (arith, c.self.invariant.small q i, seen c.self.inside.pile c.self.inside.apart.items c.args.self.now q i c.self.view_is)

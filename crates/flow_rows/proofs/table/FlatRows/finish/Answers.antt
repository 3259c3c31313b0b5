use Rattle.std.proofs.Common.{arith}
use Rattle.std.proofs.lemmas.Result.{IfOk-weaker}
use Rattle.flow_rows.proofs.Totals.{seen}
use Rattle.flow_rows.proofs.table.FlatRows.finish.Goals as goal

pub returns-clause-total : goal.returns-clause-total
returns-clause-total g c =
    IfOk-weaker c.merge_two.result _ _
    (λ rows t q i. omega (arith, t q i, c.in_ok-rows.ensures.total q i, c.in_ok-great.ensures.total q i, seen c.self.inside.pile c.self.inside.apart.items c.args.self q i c.self.view_is))
    c.merge_two.ensures.total

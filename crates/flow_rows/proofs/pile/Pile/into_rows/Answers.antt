use Rattle.std.proofs.Common.{◌∙◌, arith, rules}
use Rattle.std.proofs.lemmas.Result.{IfOk-weaker}
use Rattle.flow_rows.proofs.Totals.{seen}
use Rattle.flow_rows.proofs.pile.Pile.into_rows.Goals as goal

pub into_rows-requires : goal.into_rows-requires
into_rows-requires g c = (search rules, (λ q i. omega (arith, c.self.invariant.within q i, c.self.invariant.small), (c.self.invariant.counted, c.self.invariant.runs_are)))

pub returns-clause-total : goal.returns-clause-total
returns-clause-total g c =
    IfOk-weaker c.into_rows.result _ _ (λ rows t q i. t q i ∙ seen c.self.inside.buffer.items c.self.inside.runs.items c.args.self q i c.self.view_is) c.into_rows.ensures.total

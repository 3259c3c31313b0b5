use Rattle.std.proofs.Common.{◌∙◌, List, ap, arith}
use Rattle.std.specs.Global.{Vec}
use Rattle.flow_rows.specs.Rows.{Row, total_at}
use Rattle.flow_rows.specs.Stacks.{stack_total}
use Rattle.flow_rows.proofs.Totals.{seen, total_all}
use Rattle.flow_rows.proofs.pile.Pile.held.Goals as goal

pub returns-in_err-flush-clause-total : goal.returns-in_err-flush-clause-total
returns-in_err-flush-clause-total g c = λ q i.
    total_all c.flush.new.buffer.items c.flush.new.runs.items q i ∙ c.in_err-flush.ensures.total q i
    ∙ seen c.self.inside.buffer.items c.self.inside.runs.items c.args.self.now q i c.self.view_is

pub returns-clause-total : goal.returns-clause-total
returns-clause-total g c = λ q i.
    total_all c.flush.new.buffer.items c.flush.new.runs.items q i ∙ c.in_ok-flush.ensures.total q i
    ∙ seen c.self.inside.buffer.items c.self.inside.runs.items c.args.self.now q i c.self.view_is

pub returns-clause-held : goal.returns-clause-held
returns-clause-held g c = λ i.
    let q = c.args.wanted.now.key in
    omega (arith, c.held.ensures i, ap (λ (rs : List (Vec Row)). stack_total rs q i) c.deref.ensures.value, ap (λ (xs : List Row). total_at xs q i) c.in_ok-flush.ensures.emptied, c.in_ok-flush.ensures.total q i, seen c.self.inside.buffer.items c.self.inside.runs.items c.args.self.now q i c.self.view_is)

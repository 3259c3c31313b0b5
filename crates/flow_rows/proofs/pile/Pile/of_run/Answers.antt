use Rattle.std.proofs.Common.{◌≡◌, ◌∙◌, List, ap, arith}
use Rattle.std.specs.Global.{Vec}
use Rattle.flow_rows.specs.Rows.{Row, total_at}
use Rattle.flow_rows.specs.Stacks.{held_total, stack_total}
use Rattle.flow_rows.proofs.Totals.{total_all}
use Rattle.flow_rows.proofs.pile.Pile.of_run.Goals as goal

pub returns : goal.returns
returns g c = λ q i.
    let b = c.new.result.items in
    let r = c.push_run.new.runs.items in
    let n : held_total b r q i ≡ total_at c.args.run.items q i = omega (arith, ap (λ (xs : List Row). total_at xs q i) c.new.ensures.items, ap (λ (rs : List (Vec Row)). stack_total rs q i) c.new-runs.ensures.items, c.in_ok-push_run.ensures.total q i) in
    total_all b r q i ∙ n

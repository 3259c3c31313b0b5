use Rattle.std.proofs.Common.{arith, rules}
use Rattle.flow_rows.proofs.Counting.{one_run}
use Rattle.flow_rows.proofs.Totals.{one_total}
use Rattle.flow_rows.proofs.adding.lay_apart.Goals as goal

pub push_run-requires : goal.push_run-requires
push_run-requires g c =
    let old = c.new-run.result.items in
    let new = c.push.new.self.items in
    let e = c.new-run.ensures.items in
    let f = c.in_ok-push.ensures.items in
    (search rules, (λ q i. omega (arith, one_total old new c.args.piece.now q i e f, c.requires.small q i), (c.requires.runs, one_run old new c.args.piece.now e f c.requires.piece)))

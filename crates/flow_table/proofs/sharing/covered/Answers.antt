use Rattle.std.proofs.Common.{◌≡◌, ◌+◌, ◌-◌, arith, rules}
use Rattle.std.specs.List.{range_with_len}
use Rattle.flow_table.specs.Intervals.{covers}
use Rattle.flow_table.proofs.ShareSums.{alone_gets_all}
use Rattle.flow_table.proofs.sharing.covered.Goals as goal

pub returns-in-Uniform-clause-alone : goal.returns-in-Uniform-clause-alone
returns-in-Uniform-clause-alone c =
    let first = c.interval_at-low.result in
    let count = c.interval_at-in-Uniform.result - first + 1 in
    let are : covers c.args.plan.now c.args.span.start c.args.span.end ≡ range_with_len first count = search rules in
    alone_gets_all c.args.plan.now c.args.span.start c.args.span.end first count (omega (arith, c.length.ensures.value, c.length.ensures.positive)) c.args.span.forward are

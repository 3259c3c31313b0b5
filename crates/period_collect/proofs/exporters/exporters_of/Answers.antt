use Rattle.std.proofs.Common.{◌≡◌, length, arith}
use Rattle.period_collect.proofs.ExporterLists.{at_end}
use Rattle.period_collect.proofs.exporters.exporters_of.Goals as goal

pub returns : goal.returns
returns c =
    let empty : length c.loop-paths.paths.now ≡ 0 = grind (arith, c.in_default.len_below) in
    at_end c.args.paths.now c.loop-paths.paths.now c.loop-paths.exporters.items empty c.loop-paths.invariant

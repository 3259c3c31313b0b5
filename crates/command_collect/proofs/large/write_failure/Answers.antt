use Rattle.command_collect.specs.CollectLines.{collect_fault_line}
use Rattle.command_collect.specs.Large.{large_lines}
use Rattle.command_collect.proofs.LinesTold.{tells_both}
use Rattle.command_collect.proofs.large.write_failure.Goals as goal

pub returns : goal.returns
returns g c =
    let failure = c.args.failure.now in
    tells_both _ _ _ _ _ c.write_large.result (collect_fault_line failure.fault) (large_lines c.args.verbosity c.args.plan.now c.args.origins.now failure) c.in_ok-write_collect_fault.ensures c.write_large.ensures

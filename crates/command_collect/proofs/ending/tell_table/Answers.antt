use Rattle.command_collect.proofs.LinesTold.{table_lines}
use Rattle.command_collect.proofs.ending.tell_table.Goals as goal

pub returns : goal.returns
returns g c =
    let missing = c.write_missing.ensures.told in
    record {
      told = table_lines c.write_missing.result c.args.job.now c.args.table.now c.args.filtered c.tally.result c.missing.result _ _ _ c.tally.ensures c.missing.ensures (rw c.if_filtered.ensures at c.in_ok-write_tally_with.ensures.told) missing.told;
      failed = missing.failed;
      kept = λ failed. missing.kept (c.write_tally_with.ensures.kept failed);
    }

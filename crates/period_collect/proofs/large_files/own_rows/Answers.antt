use Rattle.period_collect.proofs.RowsCounted.{has_rows}
use Rattle.period_collect.proofs.large_files.own_rows.Goals as goal

pub returns-clause-rows : goal.returns-clause-rows
returns-clause-rows g c =
    let own = c.in_ok-table.ensures.own in
    record {
      alone = own.alone;
      is_alone = own.is_alone;
      has = has_rows c.args.maker.now.job.collect.plan.now own.alone c.in_ok-table.table c.rows_of.result own.is_table c.rows_of.ensures;
    }

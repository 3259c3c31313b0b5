use Rattle.flow_table.specs.RowTotals.{AreOf}
use Rattle.flow_table.specs.Rows.{kept_at}
use Rattle.flow_table.proofs.RowsHeld.{finished_rows}
use Rattle.flow_table.proofs.RunLines.{lines_of}
use Rattle.flow_table.proofs.row_totals.RowTotals.finish.Goals as goal

pub returns-clause-sums : goal.returns-clause-sums
unfolding AreOf
returns-clause-sums c = λ rows held.
    finished_rows (kept_at c.args.self.plan c.args.self.rows) rows c.in_ok-of.field-0.rows.items held.totals_are
    (lines_of c.args.self.plan c.args.self.rows held.of_plan _ c.in_ok-of.ensures.rows)

pub returns-clause-small : goal.returns-clause-small
unfolding AreOf
returns-clause-small c = λ rows held. held.small

pub returns-in_err-of-clause-small : goal.returns-in_err-of-clause-small
unfolding AreOf
returns-in_err-of-clause-small c = λ rows held. held.small

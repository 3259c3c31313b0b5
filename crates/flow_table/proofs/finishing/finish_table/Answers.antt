use Rattle.std.proofs.Common.{◌∙◌}
use Rattle.flow_table.specs.Rows.{kept_at}
use Rattle.flow_table.proofs.Finished.{finished}
use Rattle.flow_table.proofs.RunLines.{lines_of}
use Rattle.flow_table.proofs.finishing.finish_table.Goals as goal

pub returns-clause-table : goal.returns-clause-table
returns-clause-table c = λ rs holds missing_is.
    finished c.args.plan rs (kept_at c.args.plan c.args.rows) c.in_ok-of.field-0 holds.totals_are
    (lines_of c.args.plan c.args.rows holds.of_plan _ c.in_ok-of.ensures.rows)
    (c.in_ok-of.ensures.tally ∙ holds.tally_is) (c.in_ok-of.ensures.missing ∙ missing_is)

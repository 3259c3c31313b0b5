use Rattle.std.proofs.Common.{◌∙◌}
use Rattle.element_registry.specs.Faults.{fault_of}
use Rattle.element_registry.proofs.Steps.{rows_fail, rows_go_on}
use Rattle.element_registry.proofs.reading.with_all.Goals as goal

pub returns-in-Err : goal.returns-in-Err
returns-in-Err c =
    rows_fail c.args.text.now c.args.columns.now c.loop-rows.elements c.loop-rows.rows.now _ c.row-item.result c.in-Err.fault (fault_of c.at.result) c.at.result.line _ _ c.in-len1-up.len_at_least c.row-item.is c.at.ensures.fault (c.at.ensures.line ∙ c.line_at.ensures)
    c.loop-rows.invariant.known c.loop-rows.invariant.line c.in-Err.ensures

pub loop-rows-preserved : goal.loop-rows-preserved
loop-rows-preserved c =
    let both = rows_go_on c.args.text.now c.args.columns.now c.loop-rows.elements c.add_row.new.elements c.loop-rows.rows.now _ c.row-item.result c.in-len1-up.len_at_least c.row-item.is c.in_default-add_row.ensures in
    record { known = both.0 ∙ c.loop-rows.invariant.known; line = both.1 ∙ c.loop-rows.invariant.line }

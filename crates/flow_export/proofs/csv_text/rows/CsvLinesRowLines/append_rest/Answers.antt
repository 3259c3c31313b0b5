use Rattle.std.proofs.Common.{ap, length, sym, ◌∙◌}
use Rattle.flow_export.proofs.Lines.{line_appended}
use Rattle.flow_export.proofs.ObjectParts.{keys_counted}
use Rattle.flow_export.proofs.csv_text.rows.CsvLinesRowLines.append_rest.Goals as goal

pub append_cells-requires : goal.append_cells-requires
append_cells-requires c =
    ap length c.keys.ensures.value ∙ keys_counted c.args.plan.now c.args.row.now c.requires.fits ∙ sym (ap length c.deref.ensures.value)

pub returns : goal.returns
returns c = λ before front.
    line_appended c.args.self.now.intervals c.args.plan.now c.args.row.now c.keys.result.now c.deref.result.now c.deref-2.result.now before _ _ _ _ _ c.keys.ensures.value c.deref.ensures.value c.deref-2.ensures.value front
    c.in_ok-append_cells.ensures c.in_ok-append_numbers.ensures c.in_ok-append_next_number.ensures c.in_ok-push.ensures.items

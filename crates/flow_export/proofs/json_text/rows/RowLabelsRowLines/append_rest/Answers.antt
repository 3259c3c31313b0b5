use Rattle.std.proofs.Common.{◌∙◌, ap, length, sym}
use Rattle.flow_export.proofs.ObjectParts.{keys_counted, object_appended, same_counts}
use Rattle.flow_export.proofs.json_text.rows.RowLabelsRowLines.append_rest.Goals as goal

pub append_cells-requires-clause-labels : goal.append_cells-requires-clause-labels
append_cells-requires-clause-labels c =
    ap length c.deref.ensures.value ∙ (same_counts c.args.plan.now c.args.self.now c.args.row.now c.requires.made c.requires.fits).0 ∙ sym (ap length c.deref-2.ensures.value)

pub append_cells-requires-clause-keys : goal.append_cells-requires-clause-keys
append_cells-requires-clause-keys c =
    ap length c.keys.ensures.value ∙ keys_counted c.args.plan.now c.args.row.now c.requires.fits ∙ sym (ap length c.deref-2.ensures.value)

pub append_sums-requires : goal.append_sums-requires
append_sums-requires c =
    ap length c.deref-3.ensures.value ∙ (same_counts c.args.plan.now c.args.self.now c.args.row.now c.requires.made c.requires.fits).1 ∙ sym (ap length c.deref-4.ensures.value)

pub returns : goal.returns
returns c = λ before front.
    object_appended c.args.self.now.intervals c.args.plan.now c.args.self.now c.args.row.now c.deref.result.now c.deref-3.result.now c.keys.result.now c.deref-2.result.now c.deref-4.result.now before _ _ _ _ _
    c.requires.made c.requires.fits c.deref.ensures.value c.keys.ensures.value c.deref-3.ensures.value c.deref-2.ensures.value c.deref-4.ensures.value front
    c.in_ok-append_cells.ensures c.in_ok-append_sums.ensures c.in_ok-append_member.ensures c.in_ok-extend_from_slice.ensures.items

use Rattle.std.proofs.Common.{sym, ap, ◌∙◌, List, length}
use Rattle.ipfix_elements.specs.declared.cell.Cell.{Cell}
use Rattle.flow_table.specs.declared.key.Key.{Key}
use Rattle.flow_table.specs.Fitting.{IsCellOf}
use Rattle.flow_merge.proofs.Pairs.{AllZip-length}
use Rattle.flow_merge.proofs.row_reading.read_row.Goals as goal

pub are_projected-requires : goal.are_projected-requires
are_projected-requires c =
    let plan = c.args.plan.now in
    let key = c.in_ok-told.ensures.ok.key in
    ap (λ (ks : List Key). length ks) c.keys.ensures.value ∙ sym key.beside ∙ AllZip-length IsCellOf plan.kinds c.in_ok-told.told.key.items key.fit ∙ ap (λ (cs : List Cell). length cs) (sym c.deref.ensures.value)

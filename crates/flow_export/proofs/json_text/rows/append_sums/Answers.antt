use Rattle.std.proofs.Common.{◌∙◌, List, ℕ, ◌++◌, ap, get_or, sym}
use Rattle.flow_export.specs.JsonParts.{text_of}
use Rattle.ipfix_elements.specs.JsonValues.{json_number}
use Rattle.flow_export.proofs.ObjectParts.{pair_more, pairs_all}
use Rattle.flow_export.proofs.json_text.rows.append_sums.Goals as goal

pub loop-index-preserved : goal.loop-index-preserved
loop-index-preserved c =
    let text = ap (λ (t : List ℕ). c.loop-index.out.items ++ (t ++ json_number (get_or c.args.sums.now c.loop-index.index 0))) (c.as_slice.ensures.value ∙ ap text_of (sym c.index-labels-index.is)) in
    pair_more json_number c.args.labels.now c.args.sums.now c.loop-index.index c.index-labels-index.result 0 _ _ _ c.requires c.loop-index-test.true c.index-labels-index.is
    c.loop-index.invariant (c.in_ok-append_member.ensures ∙ text)

pub returns : goal.returns
returns c = pairs_all json_number c.args.labels.now c.args.sums.now c.loop-index.index _ _ c.requires c.loop-index-test.false c.loop-index.invariant

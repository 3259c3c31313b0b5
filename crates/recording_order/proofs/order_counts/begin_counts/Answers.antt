use Rattle.std.proofs.Common.{◌≡◌, ◌∙◌, ◌+◌, ◌<◌, ℕ, List, Some, length, ap, sym, arith}
use Rattle.std.specs.Prelude.{slice_get}
use Rattle.std.specs.Map.{values_of}
use Rattle.std.specs.Option.{option_copied_mut}
use Rattle.indexmap.specs.IndexMap.{index_map_len}
use Rattle.recording_order.specs.declared.numbering.Numbering.{Numbering}
use Rattle.recording_order.proofs.Counting.{begun, begun-length, begun-all, begun-next}
use Rattle.recording_order.proofs.order_counts.begin_counts.Goals as goal

pub unwrap-known-requires : goal.unwrap-known-requires
unwrap-known-requires c =
    let es : List (ℕ × Numbering) = c.args.numbers.now.entries in
    let below : c.loop-index.index < index_map_len c.loop-index.numbers =
    omega (arith, c.loop-index-test.true, c.len-index-end.ensures.len, ap length c.loop-index.invariant, begun-length c.loop-index.index es) in
    c.get_index_mut.ensures.found.1 below

pub loop-index-preserved : goal.loop-index-preserved
loop-index-preserved c =
    let index = c.loop-index.index in
    let es : List (ℕ × Numbering) = c.args.numbers.now.entries in
    let n : Numbering = c.unwrap-known.result.now in
    let at : slice_get (values_of (begun index es)) index ≡ Some n =
    ap (λ (xs : List (ℕ × Numbering)). slice_get (values_of xs) index) (sym c.loop-index.invariant) ∙ sym c.get_index_mut.ensures.value ∙ ap option_copied_mut c.unwrap-known.ensures in
    rw c.loop-index.invariant (begun-next index (index + 1) es n (omega arith) at)

pub returns : goal.returns
returns c =
    let es : List (ℕ × Numbering) = c.args.numbers.now.entries in
    let whole : c.loop-index.index ≡ length es =
    omega (arith, c.loop-index-test.false, c.loop-index.auto.index-end, c.len-index-end.ensures.len) in
    c.loop-index.invariant ∙ ap (λ (n : ℕ). begun n es) whole ∙ begun-all es

use Rattle.std.proofs.Common.{◌≡◌, ◌++◌, map, string_bytes}
use Rattle.std.specs.Prelude.{◌&&◌}
use Rattle.std.specs.VecDeque.{deque_len}
use Rattle.table_receipts.specs.Values.{input_value}
use Rattle.receipt_merging.specs.Parts.{all_complete, counts_from, inputs_in, left_out_in, no_counts, part_value}
use Rattle.receipt_merging.proofs.merging.merge_parts.Given as goal

-- with those that wait, they say what all say
abbrev pub invariant-loop-part : goal.invariant-loop-part
invariant-loop-part l = record {
  inputs : map input_value l.merged.inputs.items ++ inputs_in (map part_value l.waiting.items) ≡ inputs_in (map part_value l.initial.waiting.items);
  records : counts_from l.merged.records (map part_value l.waiting.items) ≡ counts_from no_counts (map part_value l.initial.waiting.items);
  left_out : map string_bytes l.merged.left_out.items ++ left_out_in (map part_value l.waiting.items) ≡ left_out_in (map part_value l.initial.waiting.items);
  complete : (l.merged.complete && all_complete (map part_value l.waiting.items)) ≡ all_complete (map part_value l.initial.waiting.items);
}

abbrev pub decreases-loop-part : goal.decreases-loop-part
decreases-loop-part l = deque_len l.waiting

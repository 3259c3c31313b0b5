use Rattle.std.proofs.Common.{map, take}
use Rattle.std.specs.BTreeMap.{get}
use Rattle.std.specs.Cmp.Lexicographic.{slice_cmp}
use Rattle.std.specs.Ordering.{nat_cmp}
use Rattle.table_receipts.specs.Values.{input_value}
use Rattle.receipt_merging.specs.Noted.{AreNoted}
use Rattle.receipt_merging.specs.Once.{EachOnce}
use Rattle.receipt_merging.proofs.once.first_twice.Given as goal

-- those so far are noted, and none of them comes twice
abbrev pub invariant-loop-place : goal.invariant-loop-place
invariant-loop-place l = record {
  once : EachOnce (map input_value (take l.place l.inputs));
  noted : AreNoted (map input_value (take l.place l.inputs)) (get (slice_cmp nat_cmp) l.places);
}

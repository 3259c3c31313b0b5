use Rattle.std.proofs.Common.{List}
use Rattle.std.specs.Prelude.{map}
use Rattle.table_receipts.specs.declared.receipt.CounterSum.{CounterSum}
use Rattle.table_receipts.specs.Objects.{sum_json}
use Rattle.table_receipts.specs.Values.{sum_value}
use Rattle.table_receipts.proofs.Listing.{Writing}
use Rattle.table_receipts.proofs.parts.write_sums.Given as goal

abbrev pub invariant-loop-sum : goal.invariant-loop-sum
invariant-loop-sum l = Writing (λ (xs : List CounterSum). map sum_json (map sum_value xs)) l.sums l.sum-index l.initial.writer l.writer

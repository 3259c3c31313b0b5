use Rattle.std.proofs.Common.{arith}
use Rattle.std.specs.BTreeMap.{get}
use Rattle.std.specs.Cmp.Lexicographic.{slice_cmp}
use Rattle.std.specs.Ordering.{nat_cmp}
use Rattle.table_receipts.specs.Values.{input_value}
use Rattle.receipt_merging.proofs.Twice.{if_new, if_same, skips}
use Rattle.receipt_merging.proofs.once.note.Goals as goal

pub returns-clause-same : goal.returns-clause-same
returns-clause-same c = λ is noted.
    if_same is (input_value c.args.input.now) (get (slice_cmp nat_cmp) c.args.places.now) (omega arith) noted c.in_ok-first.first c.in_ok-first.ensures.old

pub returns-clause-noted : goal.returns-clause-noted
returns-clause-noted c = λ is at noted.
    if_new is (input_value c.args.input.now) (get (slice_cmp nat_cmp) c.args.places.now) (omega arith) noted c.in_ok-first.first c.args.place (get (slice_cmp nat_cmp) c.insert.new.self) c.in_ok-first.ensures.old at c.in_ok-first.ensures.updates.0

pub returns-then-input-eq0-clause-noted : goal.returns-then-input-eq0-clause-noted
returns-then-input-eq0-clause-noted c = λ is at noted. skips is (input_value c.args.input.now) (get (slice_cmp nat_cmp) c.args.places.now) (omega arith) noted

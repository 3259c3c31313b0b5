use Rattle.table_receipts.specs.Values.{input_value}
use Rattle.receipt_merging.proofs.Twice.{noted_more, once_more, same_as_first, so_many}
use Rattle.receipt_merging.proofs.once.first_twice.Goals as goal

pub returns-in-Some : goal.returns-in-Some
returns-in-Some c =
    same_as_first input_value c.args.inputs.now c.loop-place.place c.index-inputs-place.result c.loop-place-test.true c.index-inputs-place.is c.in-Some.first
    (rw c.in-Some.is at c.in_ok-first.ensures.same _ c.loop-place.invariant.noted)

pub loop-place-preserved : goal.loop-place-preserved
loop-place-preserved c =
    let xs = c.args.inputs.now in
    let place = c.loop-place.place in
    let input = c.index-inputs-place.result in
    let noted = rw c.in_default.is at c.in_ok-first.ensures.noted _ (so_many input_value xs place input c.loop-place-test.true c.index-inputs-place.is) c.loop-place.invariant.noted in
    record {
      once = once_more input_value xs place input c.loop-place-test.true c.index-inputs-place.is _ c.loop-place.invariant.once noted;
      noted = noted_more input_value xs place input c.loop-place-test.true c.index-inputs-place.is _ noted;
    }

use Rattle.std.proofs.Common.{◌≡◌, ◌<◌, ◌≤◌, length, Ok, refl, ◌∙◌, arith}
use Rattle.std.proofs.lemmas.Result.{err_from_is_err_and}
use Rattle.ipfix_message.specs.SpelledFields.{least, fields_at, fields_in}
use Rattle.ipfix_message.specs.DataRecords.{record_of}
use Rattle.ipfix_message.specs.Held.{extended}
use Rattle.ipfix_message.proofs.Bodies.{goes_on, is_done, ends}
use Rattle.ipfix_message.proofs.RecordFields.{fields_at-takes}
use Rattle.ipfix_message.proofs.SpelledFields.{end_at, ends-more, fields_at-end}
use Rattle.ipfix_message.proofs.data_set.take_records.Goals as goal

pub returns-in_err-after : goal.returns-in_err-after
returns-in_err-after c =
    let p = err_from_is_err_and c.from_residual-in_err-after.result c.from_residual-in_err-after.ensures.1 in
    let long : least c.args.known.now.specs ≤ length c.loop-rest.rest.now = omega (arith, c.least-least.ensures.sum, c.loop-rest-test.true) in
    rw (p.1, p.2) (ends c.in_err-after.field-0.0 c.args.known.now.specs (record_of c.args.header.now c.args.known.now) c.loop-rest.out.items c.loop-rest.rest.now
    (extended c.args.out.now.items c.args.header.now c.args.known.now c.args.body.now) long
    (rw c.laid_out-laid_out.ensures at c.in_err-after.ensures.gives) c.loop-rest.invariant.so_far)

pub loop-rest-smaller : goal.loop-rest-smaller
loop-rest-smaller c =
    let specs = c.args.known.now.specs in
    let read : fields_at specs c.loop-rest.rest.now ≡ Ok (fields_in specs c.loop-rest.rest.now, c.in_ok-after.after.now) = rw c.laid_out-laid_out.ensures at c.in_ok-after.ensures.gives in
    let taken = fields_at-takes specs c.loop-rest.rest.now (fields_in specs c.loop-rest.rest.now) c.in_ok-after.after.now read in
    omega (arith, taken, c.least-least.ensures.sum, c.least-least.ensures.positive)

pub loop-rest-preserved : goal.loop-rest-preserved
loop-rest-preserved c =
    let specs = c.args.known.now.specs in
    let rest = c.loop-rest.rest.now in
    let positive : 0 < least specs = omega (arith, c.least-least.ensures.sum, c.least-least.ensures.positive) in
    let read : fields_at specs rest ≡ Ok (fields_in specs rest, c.in_ok-after.after.now) = rw c.laid_out-laid_out.ensures at c.in_ok-after.ensures.gives in
    let at = end_at c.args.body.now rest c.loop-rest.invariant.end in
    let same : c.in_set.result ≡ fields_in specs rest = c.in_set.ensures ∙ rw (c.in_ok-set_of_record.ensures, c.in_ok-set.ensures.specs, c.in_ok-set.ensures.octets, c.in_ok-shared.ensures, at.1) refl in
    record {
      so_far = rw (c.in_ok-push.ensures.items, same, c.template-template.ensures)
          (goes_on specs (record_of c.args.header.now c.args.known.now) c.loop-rest.out.items rest (fields_in specs rest) c.in_ok-after.after.now
          (extended c.args.out.now.items c.args.header.now c.args.known.now c.args.body.now) positive read c.loop-rest.invariant.so_far);
      end = ends-more c.args.body.now rest c.in_ok-after.after.now c.loop-rest.invariant.end (fields_at-end specs rest (fields_in specs rest) c.in_ok-after.after.now read);
    }

pub returns : goal.returns
returns c =
    let short : length c.loop-rest.rest.now < least c.args.known.now.specs = omega (arith, c.least-least.ensures.sum, c.loop-rest-test.false) in
    is_done c.args.known.now.specs (record_of c.args.header.now c.args.known.now) c.loop-rest.out.items c.loop-rest.rest.now
    (extended c.args.out.now.items c.args.header.now c.args.known.now c.args.body.now) short c.loop-rest.invariant.so_far

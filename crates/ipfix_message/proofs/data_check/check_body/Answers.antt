use Rattle.std.proofs.Common.{◌≡◌, ◌<◌, ◌≤◌, length, Ok, arith}
use Rattle.std.proofs.lemmas.Result.{err_from_is_err_and}
use Rattle.ipfix_message.specs.SpelledFields.{least, fields_at, fields_in}
use Rattle.ipfix_message.proofs.DataChecks.{next_record, last_record, cut_record, cut_is}
use Rattle.ipfix_message.proofs.RecordFields.{fields_at-takes}
use Rattle.ipfix_message.proofs.data_check.check_body.Goals as goal

pub returns-in_err-rest : goal.returns-in_err-rest
returns-in_err-rest c =
    let p = err_from_is_err_and c.from_residual.result c.from_residual.ensures.1 in
    let specs = c.args.known.now.specs in
    let rest = c.loop-rest.rest.now in
    let long : least specs ≤ length rest = omega (arith, c.least-least.ensures.sum, c.loop-rest-test.true) in
    let here = cut_is c.in_err-rest.field-0.0 (fields_at specs rest) c.in_err-rest.ensures.cut (rw c.laid_out-laid_out.ensures at c.in_err-rest.ensures.gives) in
    rw (p.1, p.2) (c.in_err-rest.ensures.cut, cut_record specs rest c.args.body.now c.in_err-rest.field-0.0 long here c.loop-rest.invariant)

pub loop-rest-smaller : goal.loop-rest-smaller
loop-rest-smaller c =
    let specs = c.args.known.now.specs in
    let rest = c.loop-rest.rest.now in
    let read : fields_at specs rest ≡ Ok (fields_in specs rest, c.in_ok-rest.rest.now) = rw c.laid_out-laid_out.ensures at c.in_ok-rest.ensures.gives in
    let taken = fields_at-takes specs rest (fields_in specs rest) c.in_ok-rest.rest.now read in
    omega (arith, taken, c.least-least.ensures.sum, c.least-least.ensures.positive)

pub loop-rest-preserved : goal.loop-rest-preserved
loop-rest-preserved c =
    let specs = c.args.known.now.specs in
    let rest = c.loop-rest.rest.now in
    let positive : 0 < least specs = omega (arith, c.least-least.ensures.sum, c.least-least.ensures.positive) in
    let read : fields_at specs rest ≡ Ok (fields_in specs rest, c.in_ok-rest.rest.now) = rw c.laid_out-laid_out.ensures at c.in_ok-rest.ensures.gives in
    next_record specs rest c.args.body.now (fields_in specs rest) c.in_ok-rest.rest.now positive read c.loop-rest.invariant

pub returns : goal.returns
returns c =
    let specs = c.args.known.now.specs in
    let short : length c.loop-rest.rest.now < least specs = omega (arith, c.least-least.ensures.sum, c.loop-rest-test.false) in
    last_record specs c.loop-rest.rest.now c.args.body.now short c.loop-rest.invariant

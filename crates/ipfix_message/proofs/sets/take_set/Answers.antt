use Rattle.std.proofs.Common.{◌<◌, arith}
use Rattle.std.specs.Prelude.{◌≢◌}
use Rattle.ipfix_message.proofs.Decoding.{skipped_set}
use Rattle.ipfix_message.proofs.sets.take_set.Goals as goal

pub returns-then-id-lt-FIRST_TEMPLATE_ID-clause-gives : goal.returns-then-id-lt-FIRST_TEMPLATE_ID-clause-gives
returns-then-id-lt-FIRST_TEMPLATE_ID-clause-gives c = λ d holds.
    let two : c.args.id ≢ 2 = omega arith in
    let three : c.args.id ≢ 3 = omega arith in
    let below : c.args.id < 256 = omega arith in
    skipped_set c.args.decoded.now.header d c.args.id c.args.body.now c.args.templates.now.entries c.args.decoded.now holds two three below

use Rattle.ipfix_message.proofs.PartsOf.{was_read, part_reads}
use Rattle.ipfix_message.proofs.laws.templates_are_enough.Goals as goal

pub returns : goal.returns
returns c = λ fs ds m x part read same.
    let y = part_reads fs ds m x part same (was_read ds m x read) in
    (y.0, y.1, y.2, y.3)

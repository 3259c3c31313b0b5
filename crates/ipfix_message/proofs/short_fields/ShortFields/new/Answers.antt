use Rattle.std.proofs.Common.{[], arith}
use Rattle.ipfix_message.proofs.SpelledFields.{no_fields, none_spelled}
use Rattle.ipfix_message.proofs.short_fields.ShortFields.new.Goals as goal

pub invariant_of-result : goal.invariant_of-result
invariant_of-result c = (omega arith, omega arith, none_spelled)

pub returns : goal.returns
returns c = (no_fields []).1

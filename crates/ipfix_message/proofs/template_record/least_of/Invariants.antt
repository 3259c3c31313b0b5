use Rattle.std.proofs.Common.{◌≡◌, ◌+◌, ◌*◌, ◌≤◌, drop}
use Rattle.ipfix_message.specs.SpelledFields.{least}
use Rattle.ipfix_message.proofs.template_record.least_of.Given as goal

abbrev pub invariant-loop-spec : goal.invariant-loop-spec
invariant-loop-spec l = record { sum : l.sum + least (drop l.spec-index l.specs) ≡ least l.specs; small : l.sum ≤ 65535 * l.spec-index }

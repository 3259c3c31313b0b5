use Rattle.std.proofs.Common.{◌≡◌, ◌++◌}
use Rattle.ipfix_message.proofs.short_fields.ShortFields.extend.Given as goal

abbrev pub invariant-loop-field : goal.invariant-loop-field
invariant-loop-field l = l.self ++ l.field-iterator ≡ l.fn.self ++ l.fn.fields

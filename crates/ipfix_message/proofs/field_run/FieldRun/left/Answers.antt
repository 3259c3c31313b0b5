use Rattle.std.proofs.Common.{sym}
use Rattle.ipfix_message.proofs.SpelledFields.{length-fields_in}
use Rattle.ipfix_message.proofs.field_run.FieldRun.left.Goals as goal

pub returns-clause-count : goal.returns-clause-count
returns-clause-count c = rw (← c.self.view_is) (sym (length-fields_in c.self.inside.specs.now c.self.inside.octets.now c.self.invariant))

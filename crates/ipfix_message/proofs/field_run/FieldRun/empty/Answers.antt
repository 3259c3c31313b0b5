use Rattle.std.proofs.Common.{[], ◌∙◌}
use Rattle.ipfix_message.proofs.SpelledFields.{no_fields}
use Rattle.ipfix_message.proofs.field_run.FieldRun.empty.Goals as goal

pub new-requires : goal.new-requires
new-requires c = (no_fields _).0

pub returns : goal.returns
returns c = c.new.ensures ∙ (no_fields []).1

use Rattle.std.proofs.Common.{◌≡◌, ◌++◌}
use Rattle.std.specs.Prelude.{All}
use Rattle.ipfix_message.specs.SpelledFields.{IsShort}
use Rattle.ipfix_message.proofs.own_fields.OwnFields.copy.Given as goal

abbrev pub invariant-loop-field : goal.invariant-loop-field
invariant-loop-field l = record {
  copied : l.own ++ l.field-iterator ≡ l.fn.fields;
  short : All IsShort l.field-iterator;
}

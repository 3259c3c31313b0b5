-- The fields of a record, in whichever way they are kept.
use Rattle.std.specs.Prelude.{List, [], ◌++◌}
use Rattle.std.specs.Arc.{arc_value}
use Rattle.ipfix_message.specs.Fields.{Field}
use Rattle.ipfix_message.specs.SetRecords.{HasRecordAt, fields_from}
use Rattle.ipfix_message.specs.declared.field_block.Kept.{Kept}
use Rattle.ipfix_message.specs.declared.field_block.Kept.TheVariants.{Nothing, InSet, Own}

abbrev pub kept_fields : Kept → List Field
kept_fields Nothing = []
kept_fields (InSet start set appended) = fields_from (arc_value set) start ++ appended
kept_fields (Own own) = own.value

-- the body has a record where it is said to have one
abbrev pub IsKept : Kept → Type 0
IsKept Nothing = Unit {0}
IsKept (InSet start set appended) = HasRecordAt (arc_value set) start
IsKept (Own own) = Unit {0}

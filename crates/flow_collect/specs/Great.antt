-- Great counters: those above 2^63, two of which are too large a sum.
use Rattle.std.specs.Prelude.{◌||◌, ℕ, Bool, false, List, Option, Some, None}
use Rattle.std.specs.Borrow.{Bor}
use Rattle.std.specs.List.{list_any, position_from}
use Rattle.ipfix_message.specs.declared.record.DataRecord.{DataRecord}
use Rattle.ipfix_wire.specs.declared.specifier.ElementId.{ElementId}
use Rattle.flow_table.specs.Reading.{is_great}
use Rattle.flow_collect.specs.declared.collected.FilteredReport.{FilteredReport}
use Rattle.flow_collect.specs.declared.great_note.GreatNote.{GreatNote}

-- a record has a great counter, of those that are looked at
abbrev pub has_great : Option (Bor (List ElementId)) → DataRecord → Bool
has_great None r = false
has_great (Some counters) r = list_any (is_great r) counters.now

-- before the first record, and after one more
abbrev pub great_first : Option (Bor (List ElementId)) → GreatNote
great_first counters = record { counters = counters; is_great = false }

abbrev pub great_next : GreatNote → DataRecord → GreatNote
great_next n r = record { counters = n.counters; is_great = n.is_great || has_great n.counters r }

-- the number of the first session that tells of one
abbrev pub first_great : List FilteredReport → Option ℕ
first_great reports = position_from (λ (told : FilteredReport). told.is_great) 0 reports

-- What clauses about a desk, and about the work of a round, take from their types.
use Rattle.report_writing.specs.declared.write_lines.WriteLines as writing
use Rattle.period_tables.specs.declared.place.TablePlace as placing

-- contracts see a place of tables as this trait does. This says nothing of it: where it stands in a type, clauses about a value of that type
-- needn't name it
abbrev pub PlaceIsSeen : {T : Type 0} → placing.Ghosts T → Type 0
PlaceIsSeen as_place = Unit {0}

-- the same of what paths and lines are written to
abbrev pub AreSeen : {P L : Type 0} → writing.Ghosts P → writing.Ghosts L → Type 0
AreSeen as_out as_err = Unit {0}

-- What clauses about a maker of tables take from its type.
use Rattle.ipfix_session.specs.declared.source.Source as source
use Rattle.input_sources.specs.declared.opening.OpenSource as opening
use Rattle.report_writing.specs.declared.write_lines.WriteLines as writing

-- contracts see its sources, what opens them and what its lines are written to as these traits do. This says nothing of them: where it
-- stands in a type, clauses about a value of that type needn't name them
abbrev pub AreSeen : {S O E : Type 0} → source.Ghosts S → opening.Ghosts O S → writing.Ghosts E → Type 0
AreSeen as_source as_opener as_writer = Unit {0}

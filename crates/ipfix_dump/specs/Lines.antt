-- The line that a `Line` makes of a record.
use Rattle.std.specs.Prelude.{ℕ, List}
use Rattle.ipfix_message.specs.declared.record.DataRecord.{DataRecord}
use Rattle.ipfix_dump.specs.Dumped.{line_in}
use Rattle.ipfix_dump.specs.declared.line.Line.{Line}

abbrev pub line_of : Line → DataRecord → List ℕ
line_of line = line_in line.labels.form line.labels.elements.now

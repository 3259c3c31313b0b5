use Rattle.flow_export.proofs.AsWritten.{heading_written, row_written}
use Rattle.flow_export.proofs.laws.nothing_is_quoted.Goals as goal

pub returns-clause-names : goal.returns-clause-names
returns-clause-names c = λ files plan. heading_written files.known plan files.plain

pub returns-clause-rows : goal.returns-clause-rows
returns-clause-rows c = row_written

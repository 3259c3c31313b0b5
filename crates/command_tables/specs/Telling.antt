-- The lines about the text of a table, and how the command ends by it.
use Rattle.std.specs.Prelude.{ℕ, List, [], codes}
use Rattle.flow_export.specs.declared.fault.ExportFault.TheVariants.{TooManyRows}
use Rattle.report_writing.specs.Reasons.{words_of}
use Rattle.report_writing.specs.declared.status.Status.{Status}
use Rattle.report_writing.specs.declared.status.Status.TheVariants.{Well, Failed}
use Rattle.period_tables.specs.Telling.{path_line, period_line, reason_status, unread_words}
use Rattle.command_tables.specs.declared.texts.fault.TextFault.{TextFault}
use Rattle.command_tables.specs.declared.texts.fault.TextFault.TheVariants as faults
use Rattle.command_tables.specs.declared.texts.taking.TextOutcome.{TextOutcome}
use Rattle.command_tables.specs.declared.texts.taking.TextOutcome.TheVariants.{NoTable, UpToDate, Made, NotRead, NotMade, NotPut}

-- why no text was made
abbrev pub fault_words : TextFault → List ℕ
fault_words faults.OutOfMemory = codes "out of memory"
fault_words (faults.NotRead reason) = unread_words reason
fault_words faults.OtherPlan = codes "no receipt of this plan"
fault_words faults.NotItsTable = codes "another table than its receipt's"
fault_words (faults.NotMerged fault) = codes "no table of this plan"
fault_words (faults.NotWritten TooManyRows) = codes "too many rows"
fault_words (faults.NotWritten fault) = codes "out of memory"

-- the line about what became of the text of a table, if there is one
abbrev pub text_lines : List ℕ → TextOutcome → List ℕ
text_lines table NoTable = []
text_lines table UpToDate = []
text_lines table Made = []
text_lines table (NotRead reason) = period_line table (codes "text not read") (unread_words reason)
text_lines table (NotMade fault) = period_line table (codes "text not made") (fault_words fault)
text_lines table (NotPut reason) = period_line table (codes "text not written") (words_of reason)

-- the line with the path of a text that was made
abbrev pub text_paths : List ℕ → TextOutcome → List ℕ
text_paths path Made = path_line path
text_paths path outcome = []

-- how the command ends after no text was made: what can't be read is told by its reason
abbrev pub fault_status : TextFault → Status
fault_status (faults.NotRead reason) = reason_status reason
fault_status fault = Failed

abbrev pub text_status : TextOutcome → Status
text_status NoTable = Well
text_status UpToDate = Well
text_status Made = Well
text_status (NotRead reason) = reason_status reason
text_status (NotMade fault) = fault_status fault
text_status (NotPut reason) = Failed

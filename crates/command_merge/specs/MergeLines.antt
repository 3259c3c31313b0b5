-- The lines that a merge of files writes to standard error.
use Rattle.std.specs.Prelude.{ℕ, List, ◌++◌, codes, decimal, Option, Some, None}
use Rattle.std.specs.declared.io.ErrorKind.{ErrorKind}
use Rattle.std.specs.List.{flat_map, enumerate_from}
use Rattle.report_writing.specs.declared.status.Status.{Status}
use Rattle.report_writing.specs.declared.status.Status.TheVariants as status
use Rattle.ipfix_session.specs.Faults.{number_of, name_of}
use Rattle.flow_merge.specs.MergeFaults as merging
use Rattle.flow_merge.specs.RowFaults as rows
use Rattle.flow_merge.specs.declared.merge_fault.MergeFault.{MergeFault}
use Rattle.flow_merge.specs.declared.merge_fault.MergeFault.TheVariants.{Session, Row, Border}
use Rattle.report_writing.specs.OpeningLines.{if_verbose, not_had_lines}
use Rattle.report_writing.specs.Origins.{whole_name}
use Rattle.report_writing.specs.FaultLines.{fault_text}
use Rattle.report_writing.specs.declared.reason.Reason.{Reason}
use Rattle.report_sessions.specs.ReadFailures.{read_reason, unread_lines}
use Rattle.report_writing.specs.declared.verbosity.Verbosity.{Verbosity}
use Rattle.command_merge.specs.declared.not_merged.FileFault.{FileFault}
use Rattle.command_merge.specs.declared.not_merged.NotMerged.{NotMerged}
use Rattle.command_merge.specs.declared.not_merged.NotMerged.TheVariants.{NotOpened, File, Whole}

-- how many files were merged, and how many rows their table has
unfoldable pub merged_line : ℕ → ℕ → List ℕ
merged_line files rows = codes "collectd: merged: files " ++ (decimal files ++ (codes " rows " ++ (decimal rows ++ codes "\n")))

-- a row that crosses a border, by its number
unfoldable pub border_text : ℕ → List ℕ
border_text row = codes ": fault 12 Border: row " ++ (decimal row ++ codes "\n")

-- the fault of a file, and after it that of its session or of its record, or the number of the row that crosses a border
abbrev pub merge_fault_text : MergeFault → List ℕ
merge_fault_text (Session fault) = codes ": fault 3 Session" ++ fault_text (number_of fault) (name_of fault)
merge_fault_text (Row fault) = codes ": fault 6 Row" ++ fault_text (rows.number_of fault) (rows.name_of fault)
merge_fault_text (Border row) = border_text row
merge_fault_text fault = fault_text (merging.number_of fault) (merging.name_of fault)

-- what is said of a file begins with its number, and if it is added, its name
unfoldable pub file_start : ℕ → List ℕ
file_start file = codes "collectd: merge: file " ++ decimal file

abbrev pub file_fault_line : ℕ → MergeFault → List ℕ
file_fault_line file fault = file_start file ++ merge_fault_text fault

abbrev pub named_file_line : ℕ → List ℕ → List ℕ → List ℕ
named_file_line file name text = file_start file ++ (whole_name name ++ text)

-- a file that was opened
abbrev pub file_opened_line : ℕ → List ℕ → List ℕ
file_opened_line file name = named_file_line file name (codes ": opened\n")

-- which is told if that is asked for
abbrev pub file_told : Verbosity → ℕ → List ℕ → List ℕ
file_told verbosity file name = if_verbose verbosity (file_opened_line file name)

-- the fault of a file, with the file's name
abbrev pub named_fault_line : ℕ → List ℕ → MergeFault → List ℕ
named_fault_line file name fault = named_file_line file name (merge_fault_text fault)

-- which is told if that is asked for
abbrev pub named_fault_told : Verbosity → ℕ → List ℕ → MergeFault → List ℕ
named_fault_told verbosity file name fault = if_verbose verbosity (named_fault_line file name fault)

-- why a file could not be read on, if that is its fault, and what the system answered is known
abbrev pub unread_reason : MergeFault → Option ErrorKind → Option Reason
unread_reason (Session fault) failure = read_reason (Some fault) failure
unread_reason fault failure = None

-- the fault of a file; if that is asked for, once more with the file's name, and why it could not be read on
abbrev pub file_fault_lines : Verbosity → ℕ → List ℕ → FileFault → List ℕ
file_fault_lines verbosity file name failed =
    file_fault_line file failed.fault ++ (named_fault_told verbosity file name failed.fault ++ unread_lines verbosity name failed.reason)

-- a fault that is no file's
abbrev pub merge_fault_line : MergeFault → List ℕ
merge_fault_line fault = codes "collectd: merge" ++ fault_text (merging.number_of fault) (merging.name_of fault)

-- the files that were opened, counted from 1, if that is asked for
abbrev pub files_opened_lines : Verbosity → List (List ℕ) → List ℕ
files_opened_lines verbosity names = flat_map (λ x. file_told verbosity x.0 x.1) (enumerate_from 1 names)

-- why files were not merged, and how the run ends then
abbrev pub not_merged_lines : Verbosity → NotMerged → List ℕ
not_merged_lines verbosity (NotOpened path reason) = not_had_lines verbosity (codes "open") path.now reason
not_merged_lines verbosity (File number path fault) = file_fault_lines verbosity number path.now fault
not_merged_lines verbosity (Whole fault) = merge_fault_line fault

abbrev pub status_of : NotMerged → Status
status_of (NotOpened path reason) = status.NotOpened
status_of (File number path fault) = status.Failed
status_of (Whole fault) = status.Failed

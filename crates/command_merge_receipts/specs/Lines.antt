-- The lines that tell why parts were not merged.
use Rattle.std.specs.Prelude.{ℕ, List, [], ◌++◌, Option, None, Some, codes, get_or, map, string_bytes}
use Rattle.table_receipts.specs.declared.receipt.InputReceipt.{InputReceipt}
use Rattle.receipt_merging.specs.PartFaults.{name_of, number_of}
use Rattle.receipt_merging.specs.declared.part_fault.PartFault.{PartFault}
use Rattle.receipt_merging.specs.declared.part_fault.PartFault.TheVariants as faults
use Rattle.report_sessions.specs.ReadFailures.{unread_lines}
use Rattle.report_writing.specs.FaultLines.{fault_text}
use Rattle.report_writing.specs.OpeningLines.{if_verbose}
use Rattle.report_writing.specs.Origins.{whole_name}
use Rattle.report_writing.specs.declared.status.Status.{Status}
use Rattle.report_writing.specs.declared.status.Status.TheVariants as ends
use Rattle.report_writing.specs.declared.verbosity.Verbosity.{Verbosity}
use Rattle.command_merge.specs.MergeLines.{file_start, named_file_line, not_merged_lines, status_of}
use Rattle.command_merge_receipts.specs.declared.not_merged.NotMergedParts.{NotMergedParts}
use Rattle.command_merge_receipts.specs.declared.not_merged.NotMergedParts.TheVariants.{NotMerged, Receipt, Part, InputTwice}
use Rattle.command_merge_receipts.specs.declared.reports.PartText.{PartText}
use Rattle.command_merge_receipts.specs.declared.reports.PartText.TheVariants.{Fault, Twice}

-- the name of the input at a place
abbrev pub name_at : List InputReceipt → ℕ → List ℕ
name_at inputs place = get_or (map (λ (input : InputReceipt). string_bytes input.file.name) inputs) place []

abbrev pub part_text : PartFault → List ℕ
part_text fault = fault_text (number_of fault) (name_of fault)

-- two inputs, by their names
abbrev pub both_text : List ℕ → List ℕ → List ℕ
both_text first second = whole_name first ++ (codes " and" ++ (whole_name second ++ codes "\n"))

-- which are the same
abbrev pub twice_text : List ℕ → List ℕ → List ℕ
twice_text first second = codes ": fault 10 InputTwice:" ++ both_text first second

-- which are the same, and are counted twice
unfoldable pub counted_start : List ℕ
counted_start = codes "collectd: merge: counted twice, since their octets are the same:"

abbrev pub counted_twice_line : List ℕ → List ℕ → List ℕ
counted_twice_line first second = counted_start ++ both_text first second

abbrev pub counted_twice_lines : List InputReceipt → Option (ℕ × ℕ) → List ℕ
counted_twice_lines inputs None = []
counted_twice_lines inputs (Some twice) = counted_twice_line (name_at inputs twice.0) (name_at inputs twice.1)

abbrev pub shown : PartText → List ℕ
shown (Fault fault) = part_text fault
shown (Twice first second) = twice_text first.now second.now

-- what is wrong with the file of a number; and if that is asked for, the same with its name
abbrev pub part_lines : Verbosity → ℕ → List ℕ → List ℕ → List ℕ
part_lines verbosity number name text = (file_start number ++ text) ++ if_verbose verbosity (named_file_line number name text)

-- a receipt that can't be read has the reason, too, if that is asked for
abbrev pub not_merged_parts_lines : Verbosity → NotMergedParts → List ℕ
not_merged_parts_lines verbosity (NotMerged not_merged) = not_merged_lines verbosity not_merged
not_merged_parts_lines verbosity (Receipt number files why) =
    part_lines verbosity number files.table.now (part_text faults.Receipt) ++ unread_lines verbosity files.receipt.now why
not_merged_parts_lines verbosity (Part number files fault) = part_lines verbosity number files.table.now (part_text fault)
not_merged_parts_lines verbosity (InputTwice number files inputs first second) =
    part_lines verbosity number files.table.now (twice_text (name_at inputs.items first) (name_at inputs.items second))

abbrev pub parts_status_of : NotMergedParts → Status
parts_status_of (NotMerged not_merged) = status_of not_merged
parts_status_of (Receipt number files why) = ends.Failed
parts_status_of (Part number files fault) = ends.Failed
parts_status_of (InputTwice number files inputs first second) = ends.Failed

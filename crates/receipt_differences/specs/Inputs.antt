-- How the inputs that a receipt tells of differ from those that files gave.
use Rattle.std.specs.Prelude.{◌≡◌, ℕ, ◌==◌, ◌&&◌, bytes_eq, nat_lt, Bool, true, false, List, [], ◌++◌, Option, Some, None, codes, if◌then◌else◌}
use Rattle.std.specs.Cmp.Lexicographic.{pointwise}
use Rattle.std.specs.List.{count_by, flat_map}
use Rattle.table_receipts.specs.Values.{ExporterValue, not_asked, unknown, address, InputValue}
use Rattle.table_receipts.specs.declared.receipt.DomainReceipt.{DomainReceipt}
use Rattle.receipt_differences.specs.DifferenceLines.{named_line}
use Rattle.receipt_differences.specs.declared.likeness.Likeness.{Likeness}
use Rattle.receipt_differences.specs.declared.likeness.Likeness.TheVariants.{Octets, Exporter, Report}

-- ---- which are the same, whatever their names

-- by the number of their octets and their digest
abbrev pub octets_same : InputValue → InputValue → Bool
octets_same i j = (i.file.octets == j.file.octets) && bytes_eq i.file.digest j.file.digest

abbrev pub exporter_same : ExporterValue → ExporterValue → Bool
exporter_same not_asked not_asked = true
exporter_same not_asked unknown = false
exporter_same not_asked (address f) = false
exporter_same unknown not_asked = false
exporter_same unknown unknown = true
exporter_same unknown (address f) = false
exporter_same (address e) not_asked = false
exporter_same (address e) unknown = false
exporter_same (address e) (address f) = bytes_eq e f

-- and by their exporter
abbrev pub origin_same : InputValue → InputValue → Bool
origin_same i j = octets_same i j && exporter_same i.exporter j.exporter

abbrev pub domain_same : DomainReceipt → DomainReceipt → Bool
domain_same d e = (d.domain == e.domain) && ((d.lost == e.lost) && ((d.backward == e.backward) && ((d.unaccounted == e.unaccounted) && (d.unknown_sets == e.unknown_sets))))

abbrev pub fault_same : Option (List ℕ) → Option (List ℕ) → Bool
fault_same None None = true
fault_same None (Some g) = false
fault_same (Some f) None = false
fault_same (Some f) (Some g) = bytes_eq f g

-- their sessions gave the same
abbrev pub report_same : InputValue → InputValue → Bool
report_same i j = (i.messages == j.messages) && ((i.records == j.records) && (fault_same i.fault j.fault && pointwise domain_same i.domains j.domains))

-- how far two inputs are alike
abbrev pub is_alike : Likeness → InputValue → InputValue → Bool
is_alike Octets i j = octets_same i j
is_alike Exporter i j = origin_same i j
is_alike Report i j = origin_same i j && report_same i j

-- in all that a receipt tells of them but their names
abbrev pub is_like : InputValue → InputValue → Bool
is_like = is_alike Report

abbrev pub count_alike : Likeness → InputValue → List InputValue → ℕ
count_alike to i inputs = count_by (is_alike to i) inputs

-- as many inputs as files are like any one: each input has a file of its own with the same octets, by their number and digest, and the
-- same exporter, whose session gave the same; and each file an input
pub record HaveSameInputs (inputs files : List InputValue) : Type 0 where
  pub matched : (i : InputValue) → count_by (is_like i) inputs ≡ count_by (is_like i) files

-- ---- what is told

-- fewer of the others than of its own are so far alike to this one
abbrev pub lacks : Likeness → List InputValue → List InputValue → InputValue → Bool
lacks to own others i = nat_lt (count_alike to i others) (count_alike to i own)

-- what an input has no file with: its octets; or its exporter, too; or its report
abbrev pub input_end : List InputValue → List InputValue → InputValue → List ℕ
input_end inputs files i =
    if lacks Octets inputs files i then codes ": no FILE for it\n"
    else (if lacks Exporter inputs files i then codes ": another exporter\n" else codes ": another report\n")

-- of an input: that fewer files than inputs are like it
abbrev pub input_differs : List InputValue → List InputValue → InputValue → List ℕ
input_differs inputs files i = if lacks Report inputs files i then named_line (codes "input") i.file.name (input_end inputs files i) else []

-- what a file has no input with: its octets; or its exporter, too
abbrev pub file_end : List InputValue → List InputValue → InputValue → List ℕ
file_end inputs files f = if lacks Octets files inputs f then codes ": no input for it\n" else codes ": another exporter\n"

-- of a file: that fewer inputs than files have its octets and its exporter
abbrev pub file_differs : List InputValue → List InputValue → InputValue → List ℕ
file_differs inputs files f = if lacks Exporter files inputs f then named_line (codes "file") f.file.name (file_end inputs files f) else []

-- of all inputs, and then of all files
abbrev pub inputs_differ : List InputValue → List InputValue → List ℕ
inputs_differ inputs files = flat_map (input_differs inputs files) inputs ++ flat_map (file_differs inputs files) files

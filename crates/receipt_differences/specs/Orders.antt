-- An order of inputs in which those that are alike stand together: by their octets, then by their exporters, then by their reports.
use Rattle.std.specs.Prelude.{ℕ, List, [], map, Option}
use Rattle.std.specs.Borrow.{Bor}
use Rattle.std.specs.Cmp.Lexicographic.{slice_cmp}
use Rattle.std.specs.List.Sorted.{IsPermutation, IsSortedByKey}
use Rattle.std.specs.Option.{option_cmp}
use Rattle.std.specs.Ordering.{nat_cmp, ordering_then}
use Rattle.std.specs.declared.cmp.Ordering.{Ordering}
use Rattle.table_receipts.specs.Values.{ExporterValue, not_asked, unknown, address, InputValue, input_value}
use Rattle.table_receipts.specs.declared.receipt.DomainReceipt.{DomainReceipt}
use Rattle.table_receipts.specs.declared.receipt.InputReceipt.{InputReceipt}
use Rattle.receipt_differences.specs.declared.likeness.Likeness.{Likeness}
use Rattle.receipt_differences.specs.declared.likeness.Likeness.TheVariants.{Octets, Exporter, Report}
use Rattle.receipt_differences.specs.Inputs.{file_differs, input_differs}

abbrev pub octets_cmp : InputValue → InputValue → Ordering
octets_cmp i j = ordering_then (nat_cmp i.file.octets j.file.octets) (slice_cmp nat_cmp i.file.digest j.file.digest)

-- first those of which none was asked for, then the unknown ones, then addresses
abbrev pub exporter_place : ExporterValue → ℕ
exporter_place not_asked = 0
exporter_place unknown = 1
exporter_place (address text) = 2

abbrev pub exporter_text : ExporterValue → List ℕ
exporter_text not_asked = []
exporter_text unknown = []
exporter_text (address text) = text

abbrev pub exporter_cmp : ExporterValue → ExporterValue → Ordering
exporter_cmp e f = ordering_then (nat_cmp (exporter_place e) (exporter_place f)) (slice_cmp nat_cmp (exporter_text e) (exporter_text f))

abbrev pub domain_cmp : DomainReceipt → DomainReceipt → Ordering
domain_cmp d e =
    ordering_then (nat_cmp d.domain e.domain) (ordering_then (nat_cmp d.lost e.lost)
    (ordering_then (nat_cmp d.backward e.backward) (ordering_then (nat_cmp d.unaccounted e.unaccounted) (nat_cmp d.unknown_sets e.unknown_sets))))

-- an input without a fault comes first, then faults by their names
abbrev pub fault_cmp : Option (List ℕ) → Option (List ℕ) → Ordering
fault_cmp f g = option_cmp (slice_cmp nat_cmp) f g

abbrev pub report_cmp : InputValue → InputValue → Ordering
report_cmp i j =
    ordering_then (nat_cmp i.messages j.messages) (ordering_then (nat_cmp i.records j.records)
    (ordering_then (fault_cmp i.fault j.fault) (slice_cmp domain_cmp i.domains j.domains)))

abbrev pub likeness_cmp : Likeness → InputValue → InputValue → Ordering
likeness_cmp Octets i j = octets_cmp i j
likeness_cmp Exporter i j = ordering_then (octets_cmp i j) (exporter_cmp i.exporter j.exporter)
likeness_cmp Report i j = ordering_then (ordering_then (octets_cmp i j) (exporter_cmp i.exporter j.exporter)) (report_cmp i j)

-- no input is less than the one before it
abbrev pub Ascends : List (Bor InputReceipt) → Type 0
Ascends ordered = IsSortedByKey (λ (i : Bor InputReceipt). input_value i.now) (likeness_cmp Report) ordered

-- they are the same inputs, in this order
pub record IsOrderOf (inputs : List InputReceipt) (ordered : List (Bor InputReceipt)) : Type 0 where
  pub same : IsPermutation inputs (map (λ i. i.now) ordered)
  pub ascends : Ascends ordered

abbrev pub values_of : List (Bor InputReceipt) → List InputValue
values_of ordered = map (λ i. input_value i.now) ordered

-- ---- what is told, by the inputs and the files in that order

abbrev pub on_input : List (Bor InputReceipt) → List (Bor InputReceipt) → InputReceipt → List ℕ
on_input inputs files i = input_differs (values_of inputs) (values_of files) (input_value i)

abbrev pub on_file : List (Bor InputReceipt) → List (Bor InputReceipt) → InputReceipt → List ℕ
on_file inputs files f = file_differs (values_of inputs) (values_of files) (input_value f)

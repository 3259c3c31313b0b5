-- What the receipts of parts say together.
use Rattle.std.specs.Prelude.{◌^◌, ◌-◌, ℕ, ◌+◌, Bool, true, ◌&&◌, List, [], ◌∷◌, nat_lt, if◌then◌else◌}
use Rattle.std.specs.List.{flat_map}
use Rattle.receipt_merging.specs.Once.{each_once}
use Rattle.table_receipts.specs.Values.{InputValue, ReceiptValue, receipt_value}
use Rattle.table_receipts.specs.declared.receipt.RecordCounts.{RecordCounts}
use Rattle.receipt_merging.specs.declared.parts.Part.{Part}

-- a part: its receipt, and whether its plan is the one of the table that it is merged into
pub record PartValue : Type 0 where
  pub receipt : ReceiptValue
  pub has_plan : Bool

abbrev pub part_value : Part → PartValue
part_value p = record { receipt = receipt_value p.receipt; has_plan = p.has_plan }

-- all inputs of all parts, in their order
abbrev pub inputs_in : List PartValue → List InputValue
inputs_in parts = flat_map (λ (p : PartValue). p.receipt.inputs) parts

-- the names of all inputs that were left out of parts, in their order
abbrev pub left_out_in : List PartValue → List (List ℕ)
left_out_in parts = flat_map (λ (p : PartValue). p.receipt.left_out) parts

-- a sum that stops at 2^64 - 1
abbrev pub sum_of : ℕ → ℕ → ℕ
sum_of m n = if nat_lt (m + n) (2 ^ 64) then m + n else 2 ^ 64 - 1

abbrev pub add_counts : RecordCounts → RecordCounts → RecordCounts
add_counts a b = record {
  used = sum_of a.used b.used;
  options = sum_of a.options b.options;
  untimed = sum_of a.untimed b.untimed;
  backward = sum_of a.backward b.backward;
  unkeyed = sum_of a.unkeyed b.unkeyed;
  too_long = sum_of a.too_long b.too_long;
}

-- how many records are of each class, beside these
abbrev pub counts_from : RecordCounts → List PartValue → RecordCounts
counts_from so_far [] = so_far
counts_from so_far (p ∷ ps) = counts_from (add_counts so_far p.receipt.records) ps

abbrev pub no_counts : RecordCounts
no_counts = record { used = 0; options = 0; untimed = 0; backward = 0; unkeyed = 0; too_long = 0 }

-- whether none of them lost or passed over anything
abbrev pub all_complete : List PartValue → Bool
all_complete [] = true
all_complete (p ∷ ps) = p.receipt.complete && all_complete ps

-- and no input comes twice
abbrev pub is_complete : List PartValue → Bool
is_complete parts = all_complete parts && each_once (inputs_in parts)

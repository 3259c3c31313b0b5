-- Tables that are merged in steps, each with its receipt.
use Rattle.std.specs.Prelude.{◌≡◌, Bool, List}
use Rattle.std.specs.List.{AllZip, flat_map}
use Rattle.receipt_merging.specs.Parts.{PartValue, counts_from, inputs_in, is_complete, left_out_in, no_counts}
use Rattle.flow_table.specs.declared.table.Table.{Table}
use Rattle.command_collect.specs.declared.receipts.hashed_table.TextDigest.{TextDigest}
use Rattle.command_merge_receipts.specs.Receipts.{merged_receipt_of}
use Rattle.command_merge_receipts.specs.declared.job.PartsJob.{PartsJob}

-- a receipt says what those of its parts say together
pub record IsMergedOf (parts : List PartValue) (one : PartValue) : Type 0 where
  pub inputs : one.receipt.inputs ≡ inputs_in parts
  pub records : one.receipt.records ≡ counts_from no_counts parts
  pub left_out : one.receipt.left_out ≡ left_out_in parts
  pub complete : one.receipt.complete ≡ is_complete parts

-- the receipt of a merged table does
abbrev pub ReceiptsSayParts : Type 0
ReceiptsSayParts =
    (job : PartsJob) (parts : List PartValue) (text : TextDigest) (table : Table) (has : Bool)
    → IsMergedOf parts (record { receipt = merged_receipt_of job parts text table; has_plan = has })

-- the parts of all steps, in their order
abbrev pub all_parts : List (List PartValue) → List PartValue
all_parts steps = flat_map (λ (parts : List PartValue). parts) steps

-- receipts say together what others do
pub record SayTheSame (ones others : List PartValue) : Type 0 where
  pub inputs : inputs_in ones ≡ inputs_in others
  pub records : counts_from no_counts ones ≡ counts_from no_counts others
  pub left_out : left_out_in ones ≡ left_out_in others
  pub complete : is_complete ones ≡ is_complete others

-- so what was merged of parts says together what all the parts do
abbrev pub StepsSayTheSame : Type 0
StepsSayTheSame = (steps : List (List PartValue)) (ones : List PartValue) → AllZip IsMergedOf steps ones → SayTheSame ones (all_parts steps)

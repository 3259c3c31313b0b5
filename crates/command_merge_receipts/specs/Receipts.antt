-- The receipt of a merged table.
use Rattle.std.specs.Prelude.{◌≡◌, ℕ, List, Option, Some, None, IsSome, length, map, option_map}
use Rattle.std.specs.Borrow.{Bor}
use Rattle.flow_table.specs.AddedUp.{rows_in}
use Rattle.flow_table.specs.declared.table.Table.{Table}
use Rattle.output_tables.specs.TableTexts.{IsNotWritten, WritesIn, export_text_in}
use Rattle.receipt_merging.specs.Parts.{PartValue, counts_from, inputs_in, is_complete, left_out_in, no_counts}
use Rattle.table_receipts.specs.Texts.{receipt_text}
use Rattle.table_receipts.specs.Values.{IntoValue, ReceiptValue, TableValue, file_value, into_value}
use Rattle.table_receipts.specs.declared.receipt.MergedInto.{MergedInto}
use Rattle.command_collect.specs.Digests.{IsDigestOfAppended}
use Rattle.command_collect.specs.ReceiptedRuns.{IsOfReceipt}
use Rattle.command_collect.specs.Tables.{table_of}
use Rattle.command_collect.specs.declared.receipts.fault.RunFault.{RunFault}
use Rattle.command_collect.specs.declared.receipts.fault.RunFault.TheVariants.{Export, Receipt}
use Rattle.command_collect.specs.declared.receipts.hashed_table.TextDigest.{TextDigest}
use Rattle.command_merge_receipts.specs.declared.job.MergedTo.{MergedTo}
use Rattle.command_merge_receipts.specs.declared.job.PartsJob.{PartsJob}

abbrev pub into_told : Option (Bor MergedInto) → Option IntoValue
into_told into = option_map (λ (merged : Bor MergedInto). into_value merged.now) into

-- the merged table, by the digest of its text; into what its rows were merged is what the merge was told
abbrev pub merged_table_of : PartsJob → TextDigest → Table → TableValue
merged_table_of job text table =
    record (table_of job.merge.elements.now job.merge.plan.now job.merge.output text table) { into = into_told job.into }

-- under which plan the parts were merged; what their receipts say together; and the merged table
abbrev pub merged_receipt_of : PartsJob → List PartValue → TextDigest → Table → ReceiptValue
merged_receipt_of job parts text table = record {
  collectd = job.collectd.now;
  plan = job.plan.text.now;
  elements = map file_value job.plan.elements.now;
  maps = map file_value job.plan.maps.now;
  inputs = inputs_in parts;
  records = counts_from no_counts parts;
  table = merged_table_of job text table;
  left_out = left_out_in parts;
  complete = is_complete parts;
}

-- and the digest is that of the text that was written
pub record IsMergedReceipt (job : PartsJob) (parts : List PartValue) (old : Option (List ℕ)) (table : Table) (receipt : ReceiptValue) : Type 0 where
  pub text : TextDigest
  pub text_is : IsDigestOfAppended old text (export_text_in job.merge.intervals job.merge.elements.now job.merge.output job.merge.plan.now table)
  pub is : receipt ≡ merged_receipt_of job parts text table

-- such a receipt was put, if there is a place for one
abbrev pub IsPutIn : {P : Type 0} → (P → List ℕ → Type 0) → (ReceiptValue → Type 0) → Option P → Option P → Type 0
IsPutIn holds IsReceipt None None = Unit {0}
IsPutIn holds IsReceipt (Some before) (Some after) = (receipt : ReceiptValue) × IsReceipt receipt × holds after (receipt_text receipt)
IsPutIn holds IsReceipt before after = ⊥

-- the merged table was written
abbrev pub IsWritten : {W : Type 0} → (W → Option (List ℕ)) → PartsJob → Table → W → W → Type 0
IsWritten contents job table before after =
    WritesIn job.merge.intervals job.merge.elements.now job.merge.plan.now job.merge.output (contents before) (contents after) table

module _ {W P : Type 0} (contents : W → Option (List ℕ)) (holds : P → List ℕ → Type 0) (job : PartsJob) (table : Table) (to after : MergedTo W P) where
  -- and its receipt was put, if there is a place for one
  abbrev pub IsReceipted : List PartValue → Type 0
  IsReceipted parts = IsPutIn holds (IsMergedReceipt job parts (contents to.out) table) to.place after.place

-- of what there was to write to and to put a receipt at: the table wasn't written, and no receipt was put; or it was, and the receipt that
-- there is a place for wasn't put
abbrev pub IsNotDone : {W P : Type 0} → (W → Option (List ℕ)) → PartsJob → Table → W → Option P → MergedTo W P → RunFault → Type 0
IsNotDone contents job table out place after (Export fault) = IsNotWritten job.merge.output (length (rows_in table)) (after.out ≡ out) fault × (after.place ≡ place)
IsNotDone contents job table out place after (Receipt fault) = IsOfReceipt (Receipt fault) × IsWritten contents job table out after.out × IsSome place

-- The text of a table, made of its export.
use Rattle.std.specs.Prelude.{◌≡◌, ℕ, List, [], Some, length}
use Rattle.sha2.specs.Sha256.{sha256}
use Rattle.ipfix_session.specs.Sources.{unread}
use Rattle.ipfix_session.specs.declared.driver.TheConstants.{READ_LIMIT}
use Rattle.flow_export.specs.declared.intervals.Intervals.TheVariants.{OfPlan}
use Rattle.flow_table.specs.AddedUp.{rows_in, AreAddedUp}
use Rattle.flow_table.specs.Plans.{PlanValue}
use Rattle.flow_table.specs.SameTables.{RowValue}
use Rattle.flow_table.specs.declared.table.Table.{Table}
use Rattle.flow_merge.specs.Merging.{IsDueIn, IsExport}
use Rattle.flow_merge.specs.declared.merge_fault.MergeFault.{MergeFault}
use Rattle.flow_merge.specs.declared.merge_fault.MergeFault.TheVariants as merge
use Rattle.output_tables.specs.TableTexts.{IsNotWritten, export_text}
use Rattle.table_parts.specs.Parts.{HasPlan}
use Rattle.table_receipts.specs.Texts.{receipt_text}
use Rattle.table_receipts.specs.Values.{ReceiptValue, TableValue}
use Rattle.command_collect.specs.Tables.{table_of}
use Rattle.command_merge_receipts.specs.Tables.{TextSource, text_seen}
use Rattle.command_tables.specs.Receipts.{with_table}
use Rattle.command_tables.specs.declared.texts.fault.TextFault.{TextFault}
use Rattle.command_tables.specs.declared.texts.fault.TextFault.TheVariants.{OutOfMemory, NotRead, OtherPlan, NotItsTable, NotMerged, NotWritten}
use Rattle.command_tables.specs.declared.texts.job.TextJob.{TextJob}
use Rattle.command_tables.specs.declared.texts.making.MadeText.{MadeText}

-- ---- the table that an export is

-- a text is an export under the plan, and its rows are those of a table
pub record IsTableOf (plan : PlanValue) (text : List ℕ) (table : Table) : Type 0 where
  pub rows : List RowValue
  pub export : IsExport plan text rows
  pub added_up : AreAddedUp rows (rows_in table)

-- it is none for this reason, as a source that holds it and was not read before is none; or there was no memory
pub record IsNoExport (plan : PlanValue) (text : List ℕ) (fault : MergeFault) : Type 0 where
  pub before : TextSource
  pub after : TextSource
  pub holds : text_seen before ≡ unread (Some text)
  pub due : IsDueIn text_seen READ_LIMIT OfPlan plan [] before after fault

abbrev pub CannotMerge : PlanValue → List ℕ → MergeFault → Type 0
CannotMerge plan text merge.OutOfMemory = Unit {0}
CannotMerge plan text fault = IsNoExport plan text fault

-- ---- its text

-- a receipt says the octets and the digest of a text
pub record IsSaid (said : TableValue) (text : List ℕ) : Type 0 where
  pub octets : said.octets ≡ length text
  pub digest : said.digest ≡ sha256 text

-- the receipt of a text of a table that has this receipt: of the same plan, inputs, records of each class and completeness
abbrev pub receipt_with : TextJob → List ℕ → Table → ReceiptValue → List ℕ
receipt_with job text table own =
    receipt_text (with_table job.collectd.now (table_of job.elements.now job.plan.now job.output (record { octets = length text; sha256 = sha256 text }) table) own)

-- the text of a table
abbrev pub table_text : TextJob → Table → List ℕ
table_text job table = export_text job.elements.now job.output job.plan.now table

-- an export is the table of its receipt, which is of the plan; a text is that of the same table, and has its receipt
pub record IsTextOf (job : TextJob) (own : ReceiptValue) (export : List ℕ) (made : MadeText) : Type 0 where
  pub of_plan : HasPlan job.at_hand own
  pub said : IsSaid own.table export
  pub table : Table
  pub is_table : IsTableOf job.plan.now export table
  pub text_is : made.text.items ≡ table_text job table
  pub receipt_is : made.receipt.items ≡ receipt_with job made.text.items table own

-- why no text is made of it
abbrev pub IsNotMade : TextJob → ReceiptValue → List ℕ → TextFault → Type 0
IsNotMade job own export OutOfMemory = Unit {0}
IsNotMade job own export (NotRead reason) = ⊥
IsNotMade job own export OtherPlan = HasPlan job.at_hand own → ⊥
IsNotMade job own export NotItsTable = HasPlan job.at_hand own × (IsSaid own.table export → ⊥)
IsNotMade job own export (NotMerged fault) = HasPlan job.at_hand own × IsSaid own.table export × CannotMerge job.plan.now export fault
IsNotMade job own export (NotWritten fault) =
    HasPlan job.at_hand own × IsSaid own.table export × ((table : Table) × IsTableOf job.plan.now export table × IsNotWritten job.output (length (rows_in table)) (Unit {0}) fault)

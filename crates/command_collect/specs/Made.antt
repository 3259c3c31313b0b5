-- The receipt of a run.
use Rattle.std.specs.Prelude.{◌≡◌, ◌↔◌, ℕ, Bool, true, List, [], map, is_some, IsTrue, string_bytes}
use Rattle.std.specs.declared.alloc.Global.{Global}
use Rattle.std.specs.declared.string.String.{String}
use Rattle.ipfix_session.specs.declared.report.FullReport.{FullReport}
use Rattle.flow_estimates.specs.declared.report.SamplingReport.{SamplingReport}
use Rattle.flow_table.specs.declared.table.Table.{Table}
use Rattle.table_receipts.specs.Values.{InputValue, ReceiptValue, file_value, input_value, receipt_value}
use Rattle.table_receipts.specs.declared.receipt.Receipt.{Receipt}
use Rattle.command_collect.specs.Runs.{WentWell}
use Rattle.command_collect.specs.declared.gathered.Gathered.{Gathered}
use Rattle.command_collect.specs.declared.job.CollectJob.{CollectJob}
use Rattle.command_collect.specs.Tables.{counts_of, table_of}
use Rattle.command_collect.specs.declared.receipts.making.Contents.{Contents}
use Rattle.command_collect.specs.declared.receipts.making.MadeWith.{MadeWith}
use Rattle.command_collect.specs.declared.receipts.hashed_table.TextDigest.{TextDigest}

-- what the table was made with and of, and what it is
abbrev pub receipt_of : MadeWith → CollectJob → List InputValue → TextDigest → Table → Bool → ReceiptValue
receipt_of made job inputs text table complete = record {
  collectd = string_bytes made.collectd;
  plan = string_bytes made.plan;
  elements = map file_value made.elements.items;
  maps = map file_value made.maps.items;
  inputs = inputs;
  records = counts_of table.tally;
  table = table_of job.elements.now job.plan.now job.output text table;
  left_out = map string_bytes made.left_out.items;
  complete = complete;
}

-- a strict run of these sessions would end well, and no input was left out
abbrev pub IsComplete : Bool → List FullReport → List SamplingReport → Table → List (String Global) → Type 0
IsComplete is_scaled fulls samplings table left_out = WentWell true is_scaled fulls samplings table × (left_out ≡ [])

-- it says that it is complete exactly if it is
pub record IsReceiptOf (made : MadeWith) (job : CollectJob) (inputs : List InputValue) (fulls : List FullReport) (samplings : List SamplingReport) (text : TextDigest) (table : Table) (r : ReceiptValue) : Type 0 where
  pub value : r ≡ receipt_of made job inputs text table r.complete
  pub complete : IsTrue r.complete ↔ IsComplete (is_some job.estimates) fulls samplings table made.left_out.items

-- of what was gathered
abbrev pub IsReceiptWith : {S : Type 0} → Contents → CollectJob → Gathered S → Receipt → Type 0
IsReceiptWith contents job g receipt =
    IsReceiptOf contents.made job (map input_value contents.inputs.items) g.run.sessions.items g.sampling.items contents.text g.run.table (receipt_value receipt)

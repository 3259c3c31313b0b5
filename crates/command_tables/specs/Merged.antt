-- The table that is merged of the parts of a day.
use Rattle.std.specs.Prelude.{◌≡◌, ◌⊎◌, ℕ, Bool, true, List, [], Option, None, Some, option_map}
use Rattle.std.specs.Borrow.{Bor}
use Rattle.std.specs.declared.alloc.Global.{Global}
use Rattle.std.specs.declared.vec.Vec.{Vec}
use Rattle.flow_export.specs.declared.intervals.Intervals.TheVariants.{OfPlan}
use Rattle.report_writing.specs.declared.reason.Reason.{Reason}
use Rattle.report_writing.specs.declared.status.Status.{Status}
use Rattle.report_writing.specs.declared.status.Status.TheVariants.{NotOpened, Failed}
use Rattle.table_parts.specs.declared.files.PartFiles.{PartFiles}
use Rattle.command_merge_receipts.specs.Runs.{MergesParts}
use Rattle.command_merge_receipts.specs.declared.job.MergedEnd.{MergedEnd}
use Rattle.command_merge_receipts.specs.declared.job.MergedTo.{MergedTo}
use Rattle.command_merge_receipts.specs.declared.job.PartsJob.{PartsJob}
use Rattle.period_collect.specs.MadeTables.{Holds, status_with}
use Rattle.period_collect.specs.declared.kept_receipt.KeptReceipt.{KeptReceipt}
use Rattle.command_tables.specs.declared.days.day_job.DayJob.{DayJob}
use Rattle.command_tables.specs.declared.days.merging.MergedTable.{MergedTable}

-- what a merge of these parts by their receipts is to do: in the intervals of the plan, also of parts that aren't complete, and of inputs
-- that come twice
abbrev pub parts_job : DayJob → Bor (List PartFiles) → PartsJob
parts_job job parts = record {
  merge = record { elements = job.text.elements; plan = job.text.plan; intervals = OfPlan; output = job.text.output; verbosity = job.verbosity };
  plan = job.text.at_hand;
  parts = parts;
  allowed = record { incomplete = true; twice = true };
  into = None;
  collectd = job.text.collectd;
}

-- the text of the receipt that was put at a place
abbrev pub text_kept : Option KeptReceipt → Option (Vec ℕ Global)
text_kept None = None
text_kept (Some kept) = kept.text

-- the text of a merged table, that of its receipt, and whether the run ended with status 1
pub record MergedValue : Type 0 where
  pub text : List ℕ
  pub receipt : List ℕ
  pub fault : Bool

abbrev pub merged_value : MergedTable → MergedValue
merged_value made = record { text = made.text.items; receipt = made.receipt.items; fault = made.had_fault }

-- a run ended with this table and this receipt, and with status 1 or well
pub record EndsWith (ended : MergedEnd (Vec ℕ Global) KeptReceipt) (made : MergedValue) : Type 0 where
  pub status_is : ended.status ≡ status_with made.fault
  pub text_is : ended.to.out.items ≡ made.text
  pub receipt_is : option_map (λ v. v.items) (text_kept ended.to.place) ≡ Some made.receipt

-- it ended without a table: one could not be opened; or it failed, or it kept no receipt
abbrev pub EndsWithout : MergedEnd (Vec ℕ Global) KeptReceipt → Status → Type 0
EndsWithout ended NotOpened = ended.status ≡ NotOpened
EndsWithout ended Failed = (ended.status ≡ Failed) ⊎ (text_kept ended.to.place ≡ None)
EndsWithout ended status = ⊥

module _ (Has : List ℕ → List ℕ → Type 0) (Refuses : List ℕ → Reason → Type 0) (job : DayJob) (parts : Bor (List PartFiles)) (AreTold : List ℕ → Type 0) where
  -- exactly these parts, in their order, were merged by their receipts, into an empty text, with a place for the receipt
  pub record IsRun (ended : MergedEnd (Vec ℕ Global) KeptReceipt) : Type 0 where
    pub to : MergedTo (Vec ℕ Global) KeptReceipt
    pub kept : KeptReceipt
    pub merge : PartsJob
    pub empty : to.out.items ≡ []
    pub place : to.place ≡ Some kept
    pub is_merge : merge ≡ parts_job job parts
    pub runs : MergesParts Has Refuses merge (λ v. Some v.items) Holds to ended.to AreTold ended.status

  -- the table and the receipt of such a run
  pub record IsMergeOf (made : MergedValue) : Type 0 where
    pub ended : MergedEnd (Vec ℕ Global) KeptReceipt
    pub run : IsRun ended
    pub ends : EndsWith ended made

  -- such a run, which ended without a table
  pub record IsNotMerged (status : Status) : Type 0 where
    pub ended : MergedEnd (Vec ℕ Global) KeptReceipt
    pub run : IsRun ended
    pub ends : EndsWithout ended status

-- Parts that are judged by their receipts.
use Rattle.std.proofs.Common.{◌≡◌, ℕ, ◌<◌, List, length, sym, subst, arith}
use Rattle.std.proofs.lemmas.Slice.Zip.{AllZip-long}
use Rattle.receipt_merging.specs.Judging.{IsJudgementOf}
use Rattle.receipt_merging.specs.Parts.{PartValue}
use Rattle.receipt_merging.specs.declared.merging.Judgement.TheVariants as judged
use Rattle.receipt_merging.specs.declared.merging.MergedParts.{MergedParts}
use Rattle.report_writing.specs.declared.reason.Reason.{Reason}
use Rattle.command_merge.specs.declared.not_merged.NotMerged.TheVariants.{NotOpened, File, Whole}
use Rattle.table_parts.specs.Parts.{AreParts, IsPart}
use Rattle.table_parts.specs.Tables.{HasInput, tables_said}
use Rattle.table_parts.specs.declared.files.PartFiles.{PartFiles}
use Rattle.table_parts.specs.declared.plan.PlanAtHand.{PlanAtHand}
use Rattle.table_parts.specs.declared.tables.PartTable.{PartTable}
use Rattle.command_merge_receipts.specs.Stops.{AreJudged, AreRefused, IsTwice}
use Rattle.command_merge_receipts.specs.declared.job.PartsJob.{PartsJob}
use Rattle.command_merge_receipts.specs.declared.not_merged.NotMergedParts.{NotMergedParts}
use Rattle.command_merge_receipts.specs.declared.not_merged.NotMergedParts.TheVariants.{NotMerged, Receipt, Part, InputTwice}

pub within_files : (Has : List ℕ → List ℕ → Type 0) (plan : PlanAtHand) (all : List PartFiles) (parts : List PartValue) (place : ℕ) → AreParts Has plan all parts → place < length parts → place < length all
within_files Has plan all parts place read within =
    let count : length parts ≡ length all = AllZip-long (IsPart Has plan) all parts read in
    omega (arith, count, within)

-- what was judged of two inputs is what is refused
module _ (Has : List ℕ → List ℕ → Type 0) (Refuses : List ℕ → Reason → Type 0) (job : PartsJob) (merged : MergedParts) (first second : ℕ) (j : AreJudged Has job (judged.InputTwice merged first second)) (tables : List PartTable) (are : tables ≡ tables_said job.parts.now j.parts) where
  pub twice_refused : (n : NotMergedParts) → IsTwice tables merged first second n → AreRefused Has Refuses job n
  twice_refused (InputTwice number files inputs one other) twice = (
    merged,
    twice.0,
    record {
      parts = j.parts;
      read = j.read;
      judged = subst (λ (n : ℕ). IsJudgementOf job.allowed j.parts (judged.InputTwice merged n other)) (sym twice.1)
          (subst (λ (n : ℕ). IsJudgementOf job.allowed j.parts (judged.InputTwice merged first n)) (sym twice.2) j.judged);
    },
    subst (λ (n : ℕ). HasInput (tables_said job.parts.now j.parts) n number files) (sym twice.2) (subst (λ (ts : List PartTable). HasInput ts second number files) are twice.3),
  )
  twice_refused (NotMerged (Whole fault)) twice = twice
  twice_refused (NotMerged (NotOpened path reason)) twice = absurd twice
  twice_refused (NotMerged (File number path fault)) twice = absurd twice
  twice_refused (Receipt number files why) twice = absurd twice
  twice_refused (Part number files fault) twice = absurd twice

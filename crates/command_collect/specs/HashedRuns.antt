-- What was collected from sources that were hashed: its table, as it is written, and its receipt.
use Rattle.std.specs.Prelude.{ℕ, List, Option}
use Rattle.ipfix_session.specs.Sources.{SourceView}
use Rattle.output_tables.specs.TableTexts.{Writes}
use Rattle.report_writing.specs.declared.origin.Origin.{Origin}
use Rattle.table_receipts.specs.Values.{receipt_value}
use Rattle.table_receipts.specs.declared.receipt.Receipt.{Receipt}
use Rattle.command_collect.specs.Digests.{AreDigestsOf}
use Rattle.command_collect.specs.Jobs.{GathersJob}
use Rattle.command_collect.specs.ReceiptedRuns.{IsMade, IsNotPut}
use Rattle.command_collect.specs.declared.job.CollectJob.{CollectJob}
use Rattle.command_collect.specs.declared.receipts.collecting.HashedRun.{HashedRun}
use Rattle.command_collect.specs.declared.receipts.fault.RunFault.{RunFault}
use Rattle.command_collect.specs.declared.receipts.making.MadeWith.{MadeWith}

-- it is what a job gathers of these sources
abbrev pub GathersHashed : {S : Type 0} → (S → SourceView) → CollectJob → List S → List Origin → HashedRun S → Type 0
GathersHashed seen job sources origins run = GathersJob seen job sources origins run.gathered

-- its digests are those of what these sources gave, by the reports of their sessions
abbrev pub HasDigestsOf : {S : Type 0} → (S → SourceView) → List S → HashedRun S → Type 0
HasDigestsOf seen sources run = AreDigestsOf seen sources run.gathered.run.sessions.items run.digests.items

module _ {S : Type 0} (job : CollectJob) where
  -- its table was written to a writer, and nothing else
  abbrev pub WritesRun : {W : Type 0} → (W → Option (List ℕ)) → W → W → HashedRun S → Type 0
  WritesRun contents old new run =
      Writes job.elements.now job.plan.now job.output (contents old) (contents new) run.gathered.run.table

  -- its receipt, where the table was written after this text
  abbrev pub IsMadeOfRun : MadeWith → List Origin → HashedRun S → Option (List ℕ) → Receipt → Type 0
  IsMadeOfRun made origins run old receipt =
      IsMade made job origins run.gathered.run.sessions.items run.gathered.sampling.items run.digests.items old run.gathered.run.table (receipt_value receipt)

  -- it has none, for this reason
  abbrev pub NoneIsMade : List Origin → HashedRun S → Type 0 → RunFault → Type 0
  NoneIsMade origins run IsUntouched fault = IsNotPut job origins run.gathered.run.sessions.items run.digests.items run.gathered.run.table IsUntouched fault

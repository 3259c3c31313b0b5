-- A table that was made again.
use Rattle.std.specs.Prelude.{◌≡◌, ℕ, List, [], Some, length}
use Rattle.std.specs.List.{AllZip}
use Rattle.ipfix_session.specs.Given.{IsPrefix}
use Rattle.ipfix_session.specs.Sources.{SourceView}
use Rattle.flow_collect.specs.Contexts.{records_in_context, sources_of}
use Rattle.flow_collect.specs.InFull.{FullSerialAnswer, fulls_in}
use Rattle.flow_collect.specs.Texts.{AreTexts}
use Rattle.report_writing.specs.declared.origin.Origin.{Origin}
use Rattle.table_receipts.specs.Values.{receipt_value}
use Rattle.command_collect.specs.Engines.{CollectsInContext}
use Rattle.command_collect.specs.Exporters.{in_noting_context}
use Rattle.command_collect.specs.Gathered.{samplings_in}
use Rattle.command_collect.specs.Jobs.{job_text}
use Rattle.command_collect.specs.Runs.{IsFaultBy}
use Rattle.command_collect.specs.declared.job.CollectJob.{CollectJob}
use Rattle.command_collect.specs.Digests.{AreDigestsOf}
use Rattle.command_collect.specs.ReceiptedRuns.{IsMade, IsNotReceipted}
use Rattle.command_collect.specs.declared.receipts.making.MadeWith.{MadeWith}
use Rattle.command_collect.specs.declared.receipts.remaking.Remade.{Remade}
use Rattle.command_collect.specs.declared.receipts.remaking.RemakeFault.{RemakeFault}
use Rattle.command_collect.specs.declared.receipts.remaking.RemakeFault.TheVariants.{Collect, Run}

module _ {S : Type 0} (seen : S → SourceView) where
  -- the text is that of the table of what these sources gave, and its receipt is that of a run which had this job
  pub record IsRemade (job : CollectJob) (made : MadeWith) (sources : List S) (origins : List Origin) (remade : Remade) : Type 0 where
    -- what the headline says
    pub collected : FullSerialAnswer S
    pub collects : CollectsInContext seen job.engine (in_noting_context job sources origins) job.plan.now collected
    -- the records of each session are the first of those that its source's whole text gives
    pub first : (texts : List (List ℕ)) → AreTexts seen (sources_of (in_noting_context job sources origins)) texts
        → AllZip IsPrefix collects.headline.records (records_in_context (in_noting_context job sources origins) texts)
    pub text_is : remade.text.items ≡ job_text job collected.table
    pub digests : List (List ℕ)
    pub are_digests : AreDigestsOf seen sources (fulls_in collected.sessions.items) digests
    pub is_made : IsMade made job origins (fulls_in collected.sessions.items) (samplings_in collected.sessions.items) digests (Some []) collected.table (receipt_value remade.receipt)

  -- nothing was collected, or there is no text or no receipt of it, for this reason
  abbrev pub IsNotRemade : CollectJob → List S → List Origin → RemakeFault → Type 0
  IsNotRemade job sources origins (Collect fault) =
      IsFaultBy seen (length sources) job.engine (in_noting_context job sources origins) job.plan.now fault
  IsNotRemade job sources origins (Run fault) = IsNotReceipted seen sources job origins (Unit {0}) fault

-- How a run ended that puts a receipt.
use Rattle.std.specs.Prelude.{◌≡◌, ◌⊎◌, ℕ, List, [], Option, None, Some, is_some, length, map}
use Rattle.std.specs.Borrow.{Bor}
use Rattle.std.specs.declared.io.ErrorKind.{ErrorKind}
use Rattle.std.specs.declared.net.socket_addr.SocketAddr.{SocketAddr}
use Rattle.std.specs.declared.time.Duration.{Duration}
use Rattle.ipfix_session.specs.Sources.{SourceView}
use Rattle.ipfix_session.specs.declared.report.FullReport.{FullReport}
use Rattle.report_writing.specs.OpeningLines.{if_verbose, listening_line}
use Rattle.report_writing.specs.Statuses.{number_of}
use Rattle.report_writing.specs.declared.origin.Origin.{Origin}
use Rattle.report_writing.specs.declared.reason.Reason.{Reason}
use Rattle.flow_estimates.specs.declared.report.SamplingReport.{SamplingReport}
use Rattle.flow_table.specs.AddedUp.{rows_in}
use Rattle.flow_table.specs.declared.table.Table.{Table}
use Rattle.flow_collect.specs.InFull.{FullSerialAnswer, IsGivenInContext, fulls_in}
use Rattle.flow_collect.specs.Refusals.{AreTooLargeInContext}
use Rattle.flow_collect.specs.declared.failure.CollectFailure.{CollectFailure}
use Rattle.flow_collect.specs.declared.fault.CollectFault.{CollectFault}
use Rattle.flow_collect.specs.declared.fault.CollectFault.TheVariants.{SumTooLarge}
use Rattle.input_sources.specs.Had.{AreAccepted, PathsAreOpened}
use Rattle.input_sources.specs.Origins.{AreFiles, ArePeers}
use Rattle.output_tables.specs.TableTexts.{IsNotWritten}
use Rattle.table_receipts.specs.Texts.{receipt_text}
use Rattle.table_receipts.specs.Values.{ReceiptValue}
use Rattle.command_collect.specs.Collects.{Collects}
use Rattle.command_collect.specs.Engines.{CollectsInContext}
use Rattle.command_collect.specs.Exporters.{in_noting_context}
use Rattle.command_collect.specs.Gathered.{samplings_in}
use Rattle.command_collect.specs.Jobs.{job_text}
use Rattle.command_collect.specs.Large.{failure_lines}
use Rattle.command_collect.specs.Runs.{EndedWell, IsFailureBy, Runs, RunsSources, WritesAndTellsJob, WritesTable, texts_in_context}
use Rattle.command_collect.specs.Told.{TellsBehind, TellsNotAccepted, TellsNotOpened}
use Rattle.command_collect.specs.declared.job.CollectJob.{CollectJob}
use Rattle.command_collect.specs.declared.job.Connections.{Connections}
use Rattle.command_collect.specs.Digests.{AreDigestsOf, IsDigestOfAppended}
use Rattle.command_collect.specs.Faults.{run_fault_line}
use Rattle.command_collect.specs.Inputs.{inputs_of}
use Rattle.receipt_merging.specs.Once.{AreSame, EachOnce}
use Rattle.command_collect.specs.Made.{IsReceiptOf}
use Rattle.command_collect.specs.declared.receipts.fault.ReceiptFault.TheVariants.{OutOfMemory, WriteFailed, InputTwice}
use Rattle.command_collect.specs.declared.receipts.fault.RunFault.{RunFault}
use Rattle.command_collect.specs.declared.receipts.fault.RunFault.TheVariants.{Export, Receipt}
use Rattle.command_collect.specs.declared.receipts.hashed_table.TextDigest.{TextDigest}
use Rattle.command_collect.specs.declared.receipts.making.MadeWith.{MadeWith}
use Rattle.command_collect.specs.declared.receipts.run.Ended.{Ended}
use Rattle.command_collect.specs.declared.receipts.run.Hindrance.{Hindrance}
use Rattle.command_collect.specs.declared.receipts.run.Hindrance.TheVariants.{SumTooLarge as TooLarge, InputTwice as Twice}
use Rattle.command_collect.specs.declared.receipts.run.Receipted.{Receipted}

-- the receipt of these inputs and of this table, by the digest of the table's text
pub record IsMade (made : MadeWith) (job : CollectJob) (origins : List Origin) (fulls : List FullReport) (samplings : List SamplingReport) (digests : List (List ℕ)) (old : Option (List ℕ)) (table : Table) (receipt : ReceiptValue) : Type 0 where
  pub text : TextDigest
  pub text_is : IsDigestOfAppended old text (job_text job table)
  pub is : IsReceiptOf made job (inputs_of job origins fulls digests) fulls samplings text table receipt
  -- no input is in it twice
  pub once : EachOnce (inputs_of job origins fulls digests)

-- and it was put
pub record IsPut (Holds : List ℕ → Type 0) (made : MadeWith) (job : CollectJob) (origins : List Origin) (fulls : List FullReport) (samplings : List SamplingReport) (digests : List (List ℕ)) (old : Option (List ℕ)) (table : Table) : Type 0 where
  pub receipt : ReceiptValue
  pub is_made : IsMade made job origins fulls samplings digests old table receipt
  pub put : Holds (receipt_text receipt)

-- none was put for this reason: the table wasn't written; or two inputs are the same, and then nothing was written; or memory was
-- refused, or the receipt couldn't be written
abbrev pub IsNotPut : CollectJob → List Origin → List FullReport → List (List ℕ) → Table → Type 0 → RunFault → Type 0
IsNotPut job origins fulls digests table IsUntouched (Export fault) = IsNotWritten job.output (length (rows_in table)) IsUntouched fault
IsNotPut job origins fulls digests table IsUntouched (Receipt OutOfMemory) = Unit {0}
IsNotPut job origins fulls digests table IsUntouched (Receipt WriteFailed) = Unit {0}
IsNotPut job origins fulls digests table IsUntouched (Receipt (InputTwice first second)) = AreSame (inputs_of job origins fulls digests) first second × IsUntouched

-- a fault of a receipt alone
abbrev pub IsOfReceipt : RunFault → Type 0
IsOfReceipt (Export fault) = ⊥
IsOfReceipt (Receipt OutOfMemory) = Unit {0}
IsOfReceipt (Receipt WriteFailed) = Unit {0}
IsOfReceipt (Receipt (InputTwice first second)) = ⊥

-- what of the inputs a fault of collecting tells, and one of a table or of its receipt
abbrev pub hindrance_in : CollectFault → Option Hindrance
hindrance_in SumTooLarge = Some TooLarge
hindrance_in fault = None

abbrev pub hindrance_of : RunFault → Option Hindrance
hindrance_of (Receipt (InputTwice first second)) = Some (Twice first second)
hindrance_of fault = None

module _ {S : Type 0} (seen : S → SourceView) (sources : List S) where
  -- with the digests of what these sources gave
  pub record WithDigests (c : FullSerialAnswer S) (Ends : List (List ℕ) → Type 0) : Type 0 where
    pub digests : List (List ℕ)
    pub are_digests : AreDigestsOf seen sources (fulls_in c.sessions.items) digests
    pub ends : Ends digests

  -- all was collected, and there is no receipt of it for this reason
  pub record IsNotReceipted (job : CollectJob) (origins : List Origin) (IsUntouched : Type 0) (fault : RunFault) : Type 0 where
    pub collected : FullSerialAnswer S
    pub collects : CollectsInContext seen job.engine (in_noting_context job sources origins) job.plan.now collected
    pub not_put : WithDigests collected (λ digests. IsNotPut job origins (fulls_in collected.sessions.items) digests collected.table IsUntouched fault)

  -- why nothing was collected was told, and then nothing was written; or why there is no receipt; and what of the inputs that is
  abbrev pub TellsNoReceipt : CollectJob → List Origin → Type 0 → Option Hindrance → (List ℕ → Type 0) → Type 0
  TellsNoReceipt job origins IsUntouched hindrance AreTold =
      ((failure : CollectFailure) × IsFailureBy seen (length sources) job.engine (in_noting_context job sources origins) job.plan.now failure × IsUntouched × (hindrance ≡ hindrance_in failure.fault) × AreTold (failure_lines job.verbosity job.plan.now origins failure))
      ⊎ ((fault : RunFault) × IsNotReceipted job origins IsUntouched fault × (hindrance ≡ hindrance_of fault) × AreTold (run_fault_line fault))

  -- a sum of the records that these sources gave is too large; or those at two places are the same, in what was collected
  abbrev pub Hinders : CollectJob → List Origin → Hindrance → Type 0
  Hinders job origins TooLarge = AreTooLargeInContext seen job.plan.now (in_noting_context job sources origins)
  Hinders job origins (Twice first second) = IsNotReceipted job origins (Unit {0}) (Receipt (InputTwice first second))

-- how a run ended that had a table and a receipt to write: as one without a receipt, and its receipt was put after the table was written
module _ {S W P : Type 0} (contents : W → Option (List ℕ)) (holds : P → List ℕ → Type 0) (to : Receipted W P) (ended : Ended W P) (seen : S → SourceView) (failure : S → Option ErrorKind) (job : CollectJob) where
  abbrev pub EndsReceipted : (List ℕ → Type 0) → List S → List Origin → FullSerialAnswer S → Type 0
  EndsReceipted AreTold sources origins c =
      WritesAndTellsJob contents to.out ended.out AreTold failure job origins c
      × WithDigests seen sources c (λ digests. IsPut (holds ended.place) to.made job origins (fulls_in c.sessions.items) (samplings_in c.sessions.items) digests (contents to.out) c.table)

  abbrev pub RunsReceipted : (List ℕ → Type 0) → List S → List Origin → Type 0
  RunsReceipted AreTold sources origins =
      let status = number_of ended.status in
      Runs job.engine (length sources) status (ended.out ≡ to.out)
      (WritesTable (texts_in_context seen) (IsGivenInContext seen) (EndedWell job.verbosity.strict (is_some job.estimates)) job.plan.now job.engine status (EndsReceipted AreTold sources origins) (in_noting_context job sources origins))
      (TellsNoReceipt seen sources job origins (ended.out ≡ to.out) ended.hindrance AreTold) AreTold

  -- of sources that were had, of which the first lines and these tell
  abbrev pub CollectsReceipted : (List S → Type 0) → (List S → List Origin → Type 0) → List ℕ → Type 0 → (List ℕ → Type 0) → Type 0
  CollectsReceipted AreHad AreOrigins first TellsNotHad AreTold =
      Collects (number_of ended.status) (ended.out ≡ to.out)
      (RunsSources seen AreHad (λ sources. TellsBehind (AreOrigins sources) job.verbosity first AreTold (λ origins Told. RunsReceipted Told sources origins)))
      TellsNotHad

  -- of the files of these paths
  module _ {O : Type 0} (opens : O → List ℕ → S → Type 0) (sizes : O → List ℕ → Option ℕ → Type 0) (refuses : O → List ℕ → Reason → Type 0) (coming : O → Option (List S)) (before after : O) (paths : List (Bor (List ℕ))) where
    abbrev pub ReceiptedFiles : (List ℕ → Type 0) → Type 0
    ReceiptedFiles AreTold =
        let TellsPath = TellsNotOpened (sizes before) (refuses before) (map (λ (path : Bor (List ℕ)). path.now) paths) job.verbosity AreTold in
        CollectsReceipted (PathsAreOpened opens coming before after paths) (λ sources. AreFiles (sizes before) paths) [] TellsPath AreTold

  -- of so many connections, at an address
  module _ {L : Type 0} (gives : L → Option Duration → S → Type 0) (is_of : L → S → SocketAddr → Type 0) (refuses : L → Reason → Type 0) (coming : L → Option (List S)) (before after : L) (to_accept : Connections) where
    abbrev pub ReceiptedConnections : (List ℕ → Type 0) → Type 0
    ReceiptedConnections AreTold =
        let first = if_verbose job.verbosity (listening_line to_accept.address.now to_accept.count) in
        let TellsNone = TellsNotAccepted (is_of before) (refuses before) job.verbosity first to_accept.address.now AreTold in
        CollectsReceipted (AreAccepted (gives before to_accept.idle) to_accept.count (coming before) (coming after)) (ArePeers (is_of before)) first TellsNone AreTold

module _ {S O : Type 0} (seen : S → SourceView) (job : CollectJob) (opens : O → List ℕ → S → Type 0) (sizes : O → List ℕ → Option ℕ → Type 0) (coming : O → Option (List S)) (before after : O) (paths : List (Bor (List ℕ))) where
  -- it is so of the files of these paths, which were opened
  pub record HinderFiles (hindrance : Hindrance) : Type 0 where
    pub sources : List S
    pub origins : List Origin
    pub opened : PathsAreOpened opens coming before after paths sources
    pub files : AreFiles (sizes before) paths origins
    pub hinders : Hinders seen sources job origins hindrance

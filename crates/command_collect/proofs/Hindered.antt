-- What of the inputs hinders a table, by the fault that tells it.
use Rattle.std.proofs.Common.{◌≡◌, List, Option, None, Some, refl, sym, subst}
use Rattle.std.specs.Prelude.{IfSome}
use Rattle.ipfix_session.specs.Sources.{SourceView}
use Rattle.report_writing.specs.declared.origin.Origin.{Origin}
use Rattle.flow_collect.specs.Refusals.{AreTooLargeInContext}
use Rattle.flow_collect.specs.declared.fault.CollectFault.{CollectFault}
use Rattle.flow_collect.specs.declared.fault.CollectFault.TheVariants.{SumTooLarge}
use Rattle.command_collect.specs.Exporters.{in_noting_context}
use Rattle.command_collect.specs.declared.job.CollectJob.{CollectJob}
use Rattle.command_collect.specs.ReceiptedRuns.{Hinders, IsNotReceipted, hindrance_in, hindrance_of}
use Rattle.command_collect.specs.declared.receipts.fault.RunFault.{RunFault}
use Rattle.command_collect.specs.declared.receipts.fault.RunFault.TheVariants.{Export, Receipt}
use Rattle.command_collect.specs.declared.receipts.fault.ReceiptFault.TheVariants.{OutOfMemory, WriteFailed, InputTwice}
use Rattle.command_collect.specs.declared.receipts.run.Hindrance.{Hindrance}
use Rattle.command_collect.proofs.ReceiptsCollected.{untouched}

module _ {S : Type 0} (seen : S → SourceView) (sources : List S) (job : CollectJob) (origins : List Origin) where
  by_fault : (fault : CollectFault) → (fault ≡ SumTooLarge → AreTooLargeInContext seen job.plan.now (in_noting_context job sources origins)) → IfSome (hindrance_in fault) (Hinders seen sources job origins)
  by_fault SumTooLarge large = large refl
  by_fault fault large = tt

  pub hindered_in : (fault : CollectFault) (hindrance : Option Hindrance) → hindrance ≡ hindrance_in fault → (fault ≡ SumTooLarge → AreTooLargeInContext seen job.plan.now (in_noting_context job sources origins))
      → IfSome hindrance (Hinders seen sources job origins)
  hindered_in fault hindrance is large = subst (λ (h : Option Hindrance). IfSome h (Hinders seen sources job origins)) (sym is) (by_fault fault large)

  by_run : (IsUntouched : Type 0) (fault : RunFault) → IsNotReceipted seen sources job origins IsUntouched fault → IfSome (hindrance_of fault) (Hinders seen sources job origins)
  by_run IsUntouched (Export fault) not = tt
  by_run IsUntouched (Receipt OutOfMemory) not = tt
  by_run IsUntouched (Receipt WriteFailed) not = tt
  by_run IsUntouched (Receipt (InputTwice first second)) not = record {
    collected = not.collected;
    collects = not.collects;
    not_put = record { digests = not.not_put.digests; are_digests = not.not_put.are_digests; ends = (not.not_put.ends.0, tt) };
  }

  pub hindered_of : (IsUntouched : Type 0) (fault : RunFault) (hindrance : Option Hindrance) → hindrance ≡ hindrance_of fault → IsNotReceipted seen sources job origins IsUntouched fault
      → IfSome hindrance (Hinders seen sources job origins)
  hindered_of IsUntouched fault hindrance is not = subst (λ (h : Option Hindrance). IfSome h (Hinders seen sources job origins)) (sym is) (by_run IsUntouched fault not)

-- and then it is so of the sources that were had
pub hinders_same : {S : Type 0} (seen : S → SourceView) (job : CollectJob) (sources had : List S) (origins shown : List Origin) (hindrance : Option Hindrance) → sources ≡ had → shown ≡ origins
    → IfSome hindrance (Hinders seen sources job shown) → IfSome hindrance (Hinders seen had job origins)
hinders_same {S = S} seen job sources had origins shown hindrance same same_origins is =
    subst (λ (ss : List S). IfSome hindrance (Hinders seen ss job origins)) same (subst (λ (os : List Origin). IfSome hindrance (Hinders seen sources job os)) same_origins is)

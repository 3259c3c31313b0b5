-- How a command ended that collects with a receipt, by how its sources were had and run.
use Rattle.std.proofs.Common.{◌≡◌, ℕ, List, ◌++◌, All, Option, inl, inr, length, subst}
use Rattle.std.specs.Prelude.{is_some}
use Rattle.std.proofs.lemmas.Option.{IfSome_then}
use Rattle.std.specs.declared.io.ErrorKind.{ErrorKind}
use Rattle.ipfix_session.specs.Sources.{SourceView}
use Rattle.report_writing.specs.Statuses.{number_of}
use Rattle.report_writing.specs.declared.origin.Origin.{Origin}
use Rattle.report_writing.proofs.Ended.{never_two, one_of_four}
use Rattle.input_sources.specs.Had.{IsUnread}
use Rattle.input_sources.specs.InputsTold.{opened_lines}
use Rattle.command_collect.specs.Engines.{due_fault}
use Rattle.command_collect.specs.Exporters.{in_noting_context}
use Rattle.command_collect.specs.declared.job.CollectJob.{CollectJob}
use Rattle.ipfix_session.specs.declared.report.FullReport.{FullReport}
use Rattle.flow_estimates.specs.declared.report.SamplingReport.{SamplingReport}
use Rattle.flow_times.specs.declared.notes.TimesReport.{TimesReport}
use Rattle.flow_table.specs.declared.table.Table.{Table}
use Rattle.flow_collect.specs.InFull.{FullSerialAnswer, fulls_in}
use Rattle.command_collect.specs.Gathered.{IsGathered, samplings_in}
use Rattle.command_collect.specs.declared.gathered.Gathered.{Gathered}
use Rattle.command_collect.proofs.Ran.{ends_so, of_gathered}
use Rattle.command_collect.specs.ReceiptedRuns.{CollectsReceipted, IsNotPut, IsPut, RunsReceipted, TellsNoReceipt}
use Rattle.command_collect.specs.declared.receipts.fault.RunFault.{RunFault}
use Rattle.command_collect.specs.declared.receipts.fault.RunFault.TheVariants.{Export, Receipt}
use Rattle.command_collect.specs.declared.receipts.fault.ReceiptFault.TheVariants as receipts
use Rattle.command_collect.specs.declared.receipts.making.MadeWith.{MadeWith}
use Rattle.command_collect.specs.declared.receipts.run.Ended.{Ended}
use Rattle.command_collect.specs.declared.receipts.run.Receipted.{Receipted}

-- what is said of the receipt of what was gathered is said of what was collected
pub put_of : {S : Type 0} (Holds : List ℕ → Type 0) (made : MadeWith) (job : CollectJob) (origins : List Origin) (digests : List (List ℕ)) (old : Option (List ℕ)) (c : FullSerialAnswer S) (g : Gathered S) → IsGathered c g
    → IsPut Holds made job origins g.run.sessions.items g.sampling.items digests old g.run.table → IsPut Holds made job origins (fulls_in c.sessions.items) (samplings_in c.sessions.items) digests old c.table
put_of {S = S} Holds made job origins digests old c g is put =
    of_gathered (λ (sources : List S) (fulls : List FullReport) (samplings : List SamplingReport) (times : List TimesReport) (table : Table) (n : ℕ). IsPut Holds made job origins fulls samplings digests old table) c g is put

pub not_put_of : {S : Type 0} (job : CollectJob) (origins : List Origin) (digests : List (List ℕ)) (IsUntouched : Type 0) (fault : RunFault) (c : FullSerialAnswer S) (g : Gathered S) → IsGathered c g
    → IsNotPut job origins g.run.sessions.items digests g.run.table IsUntouched fault → IsNotPut job origins (fulls_in c.sessions.items) digests c.table IsUntouched fault
not_put_of {S = S} job origins digests IsUntouched fault c g is not =
    of_gathered (λ (sources : List S) (fulls : List FullReport) (samplings : List SamplingReport) (times : List TimesReport) (table : Table) (n : ℕ). IsNotPut job origins fulls digests table IsUntouched fault) c g is not

-- the same, whatever became of the writer
pub untouched : (job : CollectJob) (origins : List Origin) (fulls : List FullReport) (digests : List (List ℕ)) (table : Table) (IsUntouched : Type 0) (fault : RunFault)
    → IsNotPut job origins fulls digests table IsUntouched fault → IsNotPut job origins fulls digests table (Unit {0}) fault
untouched job origins fulls digests table IsUntouched (Export fault) not = record { many = not.many; untouched = λ is. tt }
untouched job origins fulls digests table IsUntouched (Receipt receipts.OutOfMemory) not = tt
untouched job origins fulls digests table IsUntouched (Receipt receipts.WriteFailed) not = tt
untouched job origins fulls digests table IsUntouched (Receipt (receipts.InputTwice first second)) not = (not.0, tt)

module _ {S W P : Type 0} (contents : W → Option (List ℕ)) (holds : P → List ℕ → Type 0) (to : Receipted W P) (ended : Ended W P) (seen : S → SourceView) (failure : S → Option ErrorKind) (job : CollectJob) where
  fault_told : (Told AreTold : List ℕ → Type 0) (sources : List S) (origins : List Origin) → ((lines : List ℕ) → Told lines → AreTold lines)
      → TellsNoReceipt seen sources job origins (ended.out ≡ to.out) ended.hindrance Told → TellsNoReceipt seen sources job origins (ended.out ≡ to.out) ended.hindrance AreTold
  fault_told Told AreTold sources origins otherwise (inl f) = inl (f.0, f.1, f.2, f.3, otherwise _ f.4)
  fault_told Told AreTold sources origins otherwise (inr f) = inr (f.0, f.1, f.2, otherwise _ f.3)

  -- a run that told its lines, said otherwise
  retold : (Told AreTold : List ℕ → Type 0) (sources : List S) (origins : List Origin) → ((lines : List ℕ) → Told lines → AreTold lines)
      → RunsReceipted contents holds to ended seen failure job Told sources origins → RunsReceipted contents holds to ended seen failure job AreTold sources origins
  retold Told AreTold sources origins otherwise r =
      record {
        statuses = r.statuses;
        table = λ ran.
            ends_so seen job.verbosity.strict (is_some job.estimates) job.plan.now job.engine (number_of ended.status) _ _ (in_noting_context job sources origins)
            (λ c ends. ((ends.0.0, record { ended = ends.0.1.ended; are_ended = ends.0.1.are_ended; told = otherwise _ ends.0.1.told }), ends.1)) (r.table ran);
        failed = λ three. fault_told Told AreTold sources origins otherwise (r.failed three);
        refused = IfSome_then (due_fault job.engine (length sources)) r.refused (λ fault refused. (refused.0, refused.1, otherwise _ refused.2));
      }

  module _ (AreHad : List S → Type 0) (AreOrigins : List S → List Origin → Type 0) (first : List ℕ) (TellsNotHad : Type 0) (AreTold : List ℕ → Type 0) where
    -- sources were had, and run; what the run told follows what was told of them
    pub collected : (Told : List ℕ → Type 0) (sources had : List S) (origins shown : List Origin) → sources ≡ had → AreHad had → All (IsUnread seen) had → AreOrigins had origins → shown ≡ origins
        → ((lines : List ℕ) → Told lines → AreTold (first ++ (opened_lines job.verbosity origins ++ lines))) → RunsReceipted contents holds to ended seen failure job Told sources shown
        → CollectsReceipted contents holds to ended seen failure job AreHad AreOrigins first TellsNotHad AreTold
    collected Told sources had origins shown same are_had unread are_origins same_origins behind r =
        record {
          statuses = one_of_four (number_of ended.status) r.statuses;
          ran = λ ran. record {
            sources = sources;
            had = rw same are_had;
            unread = rw same unread;
            runs = record {
              origins = origins;
              are_origins = rw same are_origins;
              told = retold Told (λ lines. AreTold (first ++ (opened_lines job.verbosity origins ++ lines))) sources origins behind
                  (subst (λ (os : List Origin). RunsReceipted contents holds to ended seen failure job Told sources os) same_origins r);
            };
          };
          not_had = never_two (number_of ended.status) r.statuses;
          stopped = never_two (number_of ended.status) r.statuses;
        }

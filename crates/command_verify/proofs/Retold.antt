-- What was told, said otherwise.
use Rattle.std.proofs.Common.{◌≡◌, List, [], ◌++◌, ℕ, All, Option, inl, inr, subst}
use Rattle.std.specs.Borrow.{Bor}
use Rattle.input_sources.specs.Had.{IsUnread, PathsAreOpened}
use Rattle.input_sources.specs.InputsTold.{opened_lines}
use Rattle.input_sources.specs.Origins.{AreFiles}
use Rattle.report_writing.specs.declared.reason.Reason.{Reason}
use Rattle.ipfix_session.specs.Sources.{SourceView}
use Rattle.table_remaking.specs.declared.again.MadeBy.{MadeBy}
use Rattle.report_writing.specs.declared.origin.Origin.{Origin}
use Rattle.report_writing.specs.declared.status.Status.{Status}
use Rattle.table_receipts.specs.Values.{ReceiptValue}
use Rattle.command_verify.specs.Again.{OpensFiles, TellsAgain, ThereValue}
use Rattle.command_verify.specs.Verified.{TellsDifferences}
use Rattle.command_verify.specs.declared.verify.VerifyJob.{VerifyJob}

differences : (said : ReceiptValue) (lines : List ℕ) (status : Status) (Told AreTold : List ℕ → Type 0) → ((l : List ℕ) → Told l → AreTold l)
    → TellsDifferences said lines status Told → TellsDifferences said lines status AreTold
differences said lines status Told AreTold otherwise (inl t) = inl (t.0, t.1, otherwise _ t.2)
differences said lines status Told AreTold otherwise (inr t) = inr (t.0, t.1, otherwise _ t.2)

pub retold : {S : Type 0} (seen : S → SourceView) (there : ThereValue) (status : Status) (by : MadeBy) (sources : List S) (origins : List Origin) (Told AreTold : List ℕ → Type 0)
    → ((l : List ℕ) → Told l → AreTold l) → TellsAgain seen there status by sources origins Told → TellsAgain seen there status by sources origins AreTold
retold seen there status by sources origins Told AreTold otherwise (inl t) = inl (t.0, t.1, differences there.said t.0 status Told AreTold otherwise t.2)
retold seen there status by sources origins Told AreTold otherwise (inr t) = inr (t.0, t.1, t.2, otherwise _ t.3)

module _ {S O : Type 0} (seen : S → SourceView) (job : VerifyJob) (there : ThereValue) (status : Status)
    (opens : O → List ℕ → S → Type 0) (sizes : O → List ℕ → Option ℕ → Type 0) (refuses : O → List ℕ → Reason → Type 0) (coming : O → Option (List S)) (before after : O) (AreTold : List ℕ → Type 0) (by : MadeBy) where
  -- files were opened, and what was told of their table follows
  pub opened : (Told : List ℕ → Type 0) (sources had : List S) (origins shown : List Origin) → sources ≡ had → PathsAreOpened opens coming before after job.again.now had → All (IsUnread seen) had
      → AreFiles (sizes before) job.again.now origins → shown ≡ origins → ((lines : List ℕ) → Told lines → AreTold (opened_lines job.verbosity origins ++ lines))
      → TellsAgain seen there status by sources shown Told → OpensFiles seen job there status opens sizes refuses coming before after AreTold by
  opened Told sources had origins shown same are_had unread are_origins same_origins behind t =
      record {
        sources = sources;
        had = rw same are_had;
        unread = rw same unread;
        told = record {
          origins = origins;
          are_origins = are_origins;
          told = retold seen there status by sources origins Told (λ lines. AreTold (opened_lines job.verbosity origins ++ lines)) behind
              (subst (λ (os : List Origin). TellsAgain seen there status by sources os Told) same_origins t);
        };
      }

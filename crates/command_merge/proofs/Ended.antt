-- How a merge ended.
use Rattle.std.proofs.Common.{◌≡◌, ℕ, List, inl, inr, Option}
use Rattle.std.specs.Prelude.{◌⊎◌}
use Rattle.ipfix_session.specs.Sources.{SourceView}
use Rattle.flow_table.specs.declared.table.Table.{Table}
use Rattle.output_tables.specs.TableTexts.{WritesIn}
use Rattle.report_writing.specs.declared.status.Status.{Status}
use Rattle.report_writing.specs.declared.status.Status.TheVariants as ends
use Rattle.command_merge.specs.MergeLines.{status_of}
use Rattle.command_merge.specs.Merges.{EndsMerged, IsMerged, RunsMerge}
use Rattle.command_merge.specs.MergesTold.{merge_lines, TellsNotExported, TellsNotMerged}
use Rattle.command_merge.specs.declared.job.MergeJob.{MergeJob}
use Rattle.command_merge.specs.declared.not_merged.NotMerged.{NotMerged}
use Rattle.command_merge.specs.declared.not_merged.NotMerged.TheVariants.{NotOpened, File, Whole}

-- files that aren't merged end the run in one of two ways
ways_to_fail : (not_merged : NotMerged) (status : Status) → status ≡ status_of not_merged → (status ≡ ends.NotOpened) ⊎ (status ≡ ends.Failed)
ways_to_fail (NotOpened path reason) status is = inl is
ways_to_fail (File number path fault) status is = inr is
ways_to_fail (Whole fault) status is = inr is

never_well : {P : Type 0} (status : Status) → (status ≡ ends.NotOpened) ⊎ (status ≡ ends.Failed) → status ≡ ends.Well → P
never_well status (inl not_opened) well = absurd (cc (not_opened, well))
never_well status (inr failed) well = absurd (cc (failed, well))

module _ {S W : Type 0} (seen : S → SourceView) (AreHad : List S → Type 0) (IsDueTo : List (List ℕ) → NotMerged → Type 0) (job : MergeJob) (names : List (List ℕ)) (contents : W → Option (List ℕ)) (old new : W) (AreTold : List ℕ → Type 0) (status : Status) where
  pub merges_all : status ≡ ends.Well → EndsMerged seen AreHad job.intervals job.plan.now (WritesIn job.intervals job.elements.now job.plan.now job.output (contents old) (contents new)) (λ table. AreTold (merge_lines job.verbosity names table))
      → RunsMerge seen AreHad IsDueTo job names contents old new AreTold status
  merges_all well merged =
      record {
        statuses = inl well;
        table = λ is. merged;
        not_opened = λ is. absurd (cc (well, is));
        failed = λ is. absurd (cc (well, is));
      }

  pub merges_none : (not_merged : NotMerged) → status ≡ status_of not_merged → new ≡ old → TellsNotMerged IsDueTo names job.verbosity AreTold status → RunsMerge seen AreHad IsDueTo job names contents old new AreTold status
  merges_none not_merged is untouched told =
      record {
        statuses = inr (ways_to_fail not_merged status is);
        table = never_well status (ways_to_fail not_merged status is);
        not_opened = λ not_opened. (untouched, told);
        failed = λ failed. inl (untouched, told);
      }

  pub exports_none : (table : Table) → status ≡ ends.Failed → IsMerged seen AreHad job.intervals job.plan.now table → TellsNotExported job.output names job.verbosity (new ≡ old) AreTold table → RunsMerge seen AreHad IsDueTo job names contents old new AreTold status
  exports_none table failed merged told =
      record {
        statuses = inr (inr failed);
        table = λ is. absurd (cc (failed, is));
        not_opened = λ is. absurd (cc (failed, is));
        failed = λ is. inr (table, merged, told);
      }

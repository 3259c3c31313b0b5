-- How a command ended that collects, by how its sources were had and run.
use Rattle.std.proofs.Common.{◌≡◌, ℕ, List, [], ◌++◌, All, Option, inl, inr, length, refl, subst}
use Rattle.std.specs.Prelude.{is_some}
use Rattle.std.proofs.lemmas.Option.{IfSome_then}
use Rattle.std.specs.declared.io.ErrorKind.{ErrorKind}
use Rattle.ipfix_session.specs.Ledger.{capped}
use Rattle.ipfix_session.specs.Sources.{SourceView}
use Rattle.report_writing.specs.declared.origin.Origin.{Origin}
use Rattle.report_writing.proofs.Ended.{never_two, one_of_four}
use Rattle.flow_collect.specs.InFull.{fulls_in}
use Rattle.flow_collect.specs.declared.failure.CollectFailure.{CollectFailure}
use Rattle.input_sources.specs.Had.{IsUnread}
use Rattle.input_sources.specs.InputsTold.{opened_lines}
use Rattle.output_tables.proofs.BuiltIn.{written_built_in}
use Rattle.command_collect.specs.Collects.{Collects, CollectsJob, CollectsPlainly}
use Rattle.command_collect.specs.CollectLines.{collect_fault_line}
use Rattle.command_collect.specs.Engines.{due_fault}
use Rattle.command_collect.specs.Exporters.{in_context}
use Rattle.command_collect.specs.Gathered.{all_filtered, samplings_in, times_of_each}
use Rattle.command_collect.specs.Large.{failure_lines}
use Rattle.command_collect.specs.Runs.{RunsJob, RunsPlainly}
use Rattle.command_collect.specs.declared.job.CollectJob.{CollectJob}
use Rattle.command_collect.proofs.LinesTold.{behind_nothing, fault_told, is_strict, plain_failure, plain_lines}
use Rattle.command_collect.proofs.Ran.{IsPlainJob, ends_so, fault_plain, not_exported_short, plainly_given, table_short}

-- no source was had
pub not_collected : (status : ℕ) (IsUntouched Ran TellsNotHad : Type 0) → status ≡ 2 → IsUntouched → TellsNotHad → Collects status IsUntouched Ran TellsNotHad
not_collected status IsUntouched Ran TellsNotHad two untouched told =
    record { statuses = inr (inr (inl two)); ran = λ ran. absurd (ran two); not_had = λ is. untouched; stopped = λ is. told }

module _ {S W : Type 0} (seen : S → SourceView) (failure : S → Option ErrorKind) (contents : W → Option (List ℕ)) (old new : W) (job : CollectJob) (status : ℕ) where
  -- a run that told its lines, said otherwise
  pub retold : (Told AreTold : List ℕ → Type 0) (sources : List S) (origins : List Origin) → ((lines : List ℕ) → Told lines → AreTold lines)
      → RunsJob contents old new Told seen failure sources job origins status → RunsJob contents old new AreTold seen failure sources job origins status
  retold Told AreTold sources origins otherwise r =
      record {
        statuses = r.statuses;
        table = λ ran. ends_so seen job.verbosity.strict (is_some job.estimates) job.plan.now job.engine status _ _ (in_context job sources origins) (λ c ends. (ends.0, record { ended = ends.1.ended; are_ended = ends.1.are_ended; told = otherwise _ ends.1.told })) (r.table ran);
        failed = λ three. fault_told (new ≡ old) _ _ _ (failure_lines job.verbosity job.plan.now origins) _ _ Told AreTold (λ failure. failure) (λ failure is. is) (λ failure. refl) (λ fault is. is) otherwise (r.failed three);
        refused = IfSome_then (due_fault job.engine (length sources)) r.refused (λ fault refused. (refused.0, refused.1, otherwise _ refused.2));
      }

  -- a run that has no options
  pub runs_plainly : (AreTold : List ℕ → Type 0) (sources : List S) (origins : List Origin) → IsPlainJob job → RunsJob contents old new AreTold seen failure sources job origins status
      → RunsPlainly contents old new AreTold seen sources job.plan.now job.engine job.output status
  runs_plainly AreTold sources origins plain r =
      let given = in_context job sources origins in
      let plainly = plainly_given job sources origins plain in
      record {
        statuses = r.statuses;
        table = λ ran.
            table_short seen job.verbosity.strict (is_some job.estimates) job.plan.now job.engine status given sources plainly _ _ (is_strict job plain.quiet)
            (λ c ends. (written_built_in job.elements.now job.plan.now job.output _ _ c.table plain.no_files ends.0, subst AreTold (plain_lines job plain.quiet plain.all plain.no_times origins (fulls_in c.sessions.items) (samplings_in c.sessions.items) (times_of_each c.sessions.items) c.table (capped (all_filtered c.sessions.items)) ends.1.ended ends.1.are_ended.reports) ends.1.told)) (r.table ran);
        failed = λ three.
            fault_told (new ≡ old) _ _ _ collect_fault_line _ _ AreTold AreTold (λ (failure : CollectFailure). failure.fault)
            (λ failure is. fault_plain seen job.verbosity.strict (is_some job.estimates) job.plan.now job.engine status given sources plainly (length sources) failure.fault is.fault_is)
            (plain_failure job plain.quiet job.plan.now origins)
            (not_exported_short seen job.verbosity.strict (is_some job.estimates) job.plan.now job.engine status given sources plainly job.output (new ≡ old)) (λ lines told. told) (r.failed three);
        refused = r.refused;
      }

  module _ (AreTold : List ℕ → Type 0) (AreHad : List S → Type 0) (TellsNotHad : Type 0) (AreOrigins : List S → List Origin → Type 0) (first : List ℕ) where
    abbrev pub EndsJob : Type 0
    EndsJob = CollectsJob seen AreHad TellsNotHad contents old new AreTold status failure job AreOrigins first

    -- sources were had, and run; what the run told follows what was told of them
    pub collected : (Told : List ℕ → Type 0) (sources had : List S) (origins shown : List Origin) → sources ≡ had → AreHad had → All (IsUnread seen) had → AreOrigins had origins → shown ≡ origins
        → ((lines : List ℕ) → Told lines → AreTold (first ++ (opened_lines job.verbosity origins ++ lines))) → RunsJob contents old new Told seen failure sources job shown status → EndsJob
    collected Told sources had origins shown same are_had unread are_origins same_origins behind r =
        record {
          statuses = one_of_four status r.statuses;
          ran = λ ran. record {
            sources = sources;
            had = rw same are_had;
            unread = rw same unread;
            runs = record {
              origins = origins;
              are_origins = rw same are_origins;
              told = retold Told (λ lines. AreTold (first ++ (opened_lines job.verbosity origins ++ lines))) sources origins behind
                  (subst (λ (os : List Origin). RunsJob contents old new Told seen failure sources job os status) same_origins r);
            };
          };
          not_had = never_two status r.statuses;
          stopped = never_two status r.statuses;
        }

    -- where nothing more is told
    pub collects_plainly : IsPlainJob job → first ≡ [] → EndsJob → CollectsPlainly seen AreHad TellsNotHad contents old new AreTold status job.plan.now job.engine job.output
    collects_plainly plain none ends =
        record {
          statuses = ends.statuses;
          ran = λ ran.
              let r = ends.ran ran in
              let behind = r.runs in
              record {
                sources = r.sources;
                had = r.had;
                unread = r.unread;
                runs = runs_plainly AreTold r.sources behind.origins plain (retold (λ lines. AreTold (first ++ (opened_lines job.verbosity behind.origins ++ lines))) AreTold r.sources behind.origins
                    (λ lines told. subst AreTold (behind_nothing job plain.quiet first none behind.origins lines) told) behind.told);
              };
          not_had = ends.not_had;
          stopped = ends.stopped;
        }

use Rattle.std.proofs.Common.{ℕ, List, ◌∙◌, ap, inl, inr, refl, rules, subst}
use Rattle.report_writing.proofs.LinesTold.{told_then}
use Rattle.report_writing.specs.Told.{AreToldTo}
use Rattle.command_merge.proofs.FilesTold.{merged_told}
use Rattle.command_merge.specs.MergeLines.{files_opened_lines}
use Rattle.command_merge_receipts.proofs.Ended.{names_said, table_path, tells_stopped}
use Rattle.command_merge_receipts.specs.Stops.{names_in}
use Rattle.command_merge_receipts.proofs.run.run_merge_parts.Goals as goal

pub returns-in-Err-merge_tables-clause-runs : goal.returns-in-Err-merge_tables-clause-runs
returns-in-Err-merge_tables-clause-runs g c =
    inr (inr (inl (record {
      taken = c.in-Ok.taken;
      are_taken = c.in-Ok.ensures.taken;
      not_merged = c.in-Err-merge_tables.not_merged;
      stops = tells_stopped _ c.args.job.now.merge.verbosity _ _ _ _ _ _ c.tell_not_merged-status-in-Err-merge_tables.ensures.told c.tell_not_merged-status-in-Err-merge_tables.ensures.kept c.in-Ok.taken.tables.items c.in-Err-merge_tables.not_merged
          (rw c.deref.ensures.value at c.in-Err-merge_tables.ensures.stops);
      untouched = refl;
      status_is = c.tell_not_merged-status-in-Err-merge_tables.ensures.status;
    })))

pub returns-in-Err-answer-clause-runs : goal.returns-in-Err-answer-clause-runs
returns-in-Err-answer-clause-runs g c =
    let taken = c.in-Ok.ensures.taken in
    let names = ap names_in (c.deref.ensures.value ∙ taken.tables_are) ∙ names_said (g.T.ReadText.has c.args.texts.now) c.args.job.now.plan c.args.job.now.parts.now taken.parts taken.read in
    let opened = subst (λ (n : List (List ℕ)). AreToldTo g.E.WriteLines.lines c.args.err.now c.merge_tables.new.err (files_opened_lines c.args.job.now.merge.verbosity n)) names c.in-Ok-merge_tables.ensures.told in
    let told = told_then _ _ _ _ _ c.write_counted_twice.result _ _ opened (rw c.deref-2.ensures.value at c.write_counted_twice.ensures.told) c.write_counted_twice.ensures.failed c.write_counted_twice.ensures.kept in
    inr (inr (inr (record {
      taken = c.in-Ok.taken;
      table = c.in-Ok-merge_tables.table;
      has_merged = record { are_taken = taken; into = rw c.deref.ensures.value at c.in-Ok-merge_tables.ensures.merged };
      fault = c.in-Err-answer.fault;
      unfinished = search rules;
      told = told_then _ _ _ _ _ c.write_run_fault.result _ _ told c.write_run_fault.ensures.told c.write_run_fault.ensures.failed c.write_run_fault.ensures.kept;
      status_is = refl;
    })))

pub returns-clause-runs : goal.returns-clause-runs
returns-clause-runs g c =
    let taken = c.in-Ok.ensures.taken in
    let names = ap names_in (c.deref.ensures.value ∙ taken.tables_are) ∙ names_said (g.T.ReadText.has c.args.texts.now) c.args.job.now.plan c.args.job.now.parts.now taken.parts taken.read in
    let opened = subst (λ (n : List (List ℕ)). AreToldTo g.E.WriteLines.lines c.args.err.now c.merge_tables.new.err (files_opened_lines c.args.job.now.merge.verbosity n)) names c.in-Ok-merge_tables.ensures.told in
    let told = told_then _ _ _ _ _ c.write_counted_twice.result _ _ opened (rw c.deref-2.ensures.value at c.write_counted_twice.ensures.told) c.write_counted_twice.ensures.failed c.write_counted_twice.ensures.kept in
    inl (record {
      taken = c.in-Ok.taken;
      table = c.in-Ok-merge_tables.table;
      has_merged = record { are_taken = taken; into = rw c.deref.ensures.value at c.in-Ok-merge_tables.ensures.merged };
      written = search rules;
      receipted = search rules;
      told = told_then _ _ _ _ _ c.write_merged.result _ _ told (merged_told c.write_merged.result _ _ table_path c.args.job.now.parts.now c.in-Ok-merge_tables.table _ _ (search rules) (search rules) c.write_merged.ensures.told) c.write_merged.ensures.failed c.write_merged.ensures.kept;
      status_is = c.ended_with-status.ensures;
    })

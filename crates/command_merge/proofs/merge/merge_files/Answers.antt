use Rattle.std.proofs.Common.{ℕ, List}
use Rattle.std.specs.Borrow.{Bor}
use Rattle.command_merge.proofs.FilesTold.{all_told, one_file_told, stops_merge, stops_whole}
use Rattle.input_sources.proofs.InputsTold.{passed_on}
use Rattle.report_writing.proofs.LinesTold.{none_told}
use Rattle.command_merge.proofs.Merged.{all_paths, last_fails, none_read, one_path}
use Rattle.command_merge.specs.MergesStopped.{rows_of}
use Rattle.command_merge.proofs.merge.merge_files.Goals as goal

pub loop-index-init : goal.loop-index-init
loop-index-init g c = record {
  stands = none_read _ _ c.args.job.now.intervals c.args.job.now.plan.now _ c.in-Ok.merging c.in-Ok.ensures.plan c.in-Ok.ensures.intervals c.in-Ok.ensures.empty;
  same = λ name source opens. opens;
  same_reason = λ name reason refuses. refuses;
  told = none_told (g.E.WriteLines.lines c.args.err.now).contents (g.E.WriteLines.lines c.args.err.now).failed;
  kept = λ failed. failed;
}

pub loop-index-preserved : goal.loop-index-preserved
loop-index-preserved g c =
    let so_far = c.loop-index.invariant in
    record {
      stands = one_path _ _ c.args.job.now.intervals c.args.job.now.plan.now _ c.args.paths.now c.loop-index.index _ _ _ _ c.loop-index.merging c.in_ok-merging.merging c.loop-index-test.true
          (λ path source opens. so_far.same path.now source opens) c.in_ok-merging.ensures.added so_far.stands;
      same = λ name source opens. so_far.same name source (c.add_file.ensures.same name source opens);
      same_reason = λ name reason refuses. so_far.same_reason name reason (c.add_file.ensures.same_reason name reason refuses);
      told = one_file_told (λ path. path.now) c.args.paths.now _ _ _ _ _ c.args.job.now.verbosity c.loop-index.index _ c.loop-index-test.true so_far.told c.in_ok-merging.ensures.told c.add_file.ensures.kept;
      kept = λ failed. c.add_file.ensures.kept (so_far.kept failed);
    }

pub returns-in_err-merging-clause-stops : goal.returns-in_err-merging-clause-stops
returns-in_err-merging-clause-stops g c =
    let so_far = c.loop-index.invariant in
    let name_of = λ (path : Bor (List ℕ)). path.now in
    passed_on c.from_residual.result c.in_err-merging.field-0.0 _ c.from_residual.ensures.1
    (stops_merge name_of c.args.paths.now _ _ _ _ _ c.args.job.now.verbosity _ (g.O.OpenSource.refuses c.loop-index.files) _ c.loop-index.index _
    (λ path reason refuses. so_far.same_reason path.now reason refuses)
    (λ number path fault fails. last_fails g.S.Source.seen g.S.Source.failure _ name_of c.args.job.now.intervals c.args.job.now.plan.now _ c.args.paths.now c.loop-index.index _ _ _ _ c.loop-index.merging fault c.loop-index-test.true so_far.same so_far.stands fails) _
    c.loop-index-test.true so_far.told c.in_err-merging.ensures.stops c.add_file.ensures.kept)

pub returns-in-Ok-finish-clause-merged : goal.returns-in-Ok-finish-clause-merged
returns-in-Ok-finish-clause-merged g c =
    let so_far = c.loop-index.invariant.stands in
    all_paths _ _ c.args.job.now.intervals c.args.job.now.plan.now _ c.args.paths.now c.loop-index.index _ c.loop-index.merging c.in-Ok-finish.table c.loop-index-test.false so_far (c.in-Ok-finish.ensures.rows (rows_of so_far.exports) so_far.stands)

pub returns-in-Ok-finish-clause-told : goal.returns-in-Ok-finish-clause-told
returns-in-Ok-finish-clause-told g c =
    all_told (λ path. path.now) c.args.paths.now _ _ _ c.args.job.now.verbosity c.loop-index.index c.loop-index-test.false c.loop-index.invariant.told

pub returns-in-Err-finish-clause-stops : goal.returns-in-Err-finish-clause-stops
returns-in-Err-finish-clause-stops g c =
    stops_whole (λ path. path.now) c.args.paths.now _ _ _ c.args.job.now.verbosity c.loop-index.index c.loop-index-test.false c.loop-index.invariant.told _ c.in-Err-finish.fault (c.in-Err-finish.ensures.err)

use Rattle.std.proofs.Common.{refl, inr}
use Rattle.report_writing.proofs.LinesTold.{none_told}
use Rattle.command_merge_receipts.proofs.TablesMerged.{all_merged, all_told, none_added, one_more, passed_on, stops_tables, told_more}
use Rattle.command_merge_receipts.specs.Tables.{rows_of}
use Rattle.command_merge_receipts.proofs.merging.merge_tables.Goals as goal

pub loop-index-init : goal.loop-index-init
loop-index-init g c = record {
  stands = none_added _ c.args.job.now.intervals c.args.job.now.plan.now c.in-Ok.merging c.in-Ok.ensures.plan c.in-Ok.ensures.intervals c.in-Ok.ensures.empty;
  told = none_told (g.E.WriteLines.lines c.args.err.now).contents (g.E.WriteLines.lines c.args.err.now).failed;
  kept = λ failed. failed;
}

pub loop-index-preserved : goal.loop-index-preserved
loop-index-preserved g c =
    let so_far = c.loop-index.invariant in
    record {
      stands = one_more _ c.args.job.now.intervals c.args.job.now.plan.now c.args.tables.now c.loop-index.index _ _ c.loop-index-test.true refl c.loop-index.merging c.in_ok-merging.merging c.in_ok-merging.ensures.added so_far.stands;
      told = told_more (g.T.ReadText.has c.args.texts.now) c.args.job.now.intervals c.args.job.now.plan.now c.args.tables.now c.loop-index.index _ _ c.loop-index-test.true refl c.args.job.now.verbosity _ _ _ _ _ so_far.told c.in_ok-merging.ensures.told c.add_table.ensures.kept;
      kept = λ failed. c.add_table.ensures.kept (so_far.kept failed);
    }

pub returns-in-Ok-finish-clause-merged : goal.returns-in-Ok-finish-clause-merged
returns-in-Ok-finish-clause-merged g c =
    let so_far = c.loop-index.invariant.stands in
    all_merged _ c.args.job.now c.args.tables.now c.loop-index.index c.loop-index.merging c.in-Ok-finish.table c.loop-index-test.false so_far (c.in-Ok-finish.ensures.rows (rows_of so_far.exports) so_far.stands)

pub returns-in-Ok-finish-clause-told : goal.returns-in-Ok-finish-clause-told
returns-in-Ok-finish-clause-told g c = all_told c.args.tables.now c.loop-index.index c.args.job.now.verbosity _ _ _ c.loop-index-test.false c.loop-index.invariant.told

pub returns-in-Err-finish-clause-stops : goal.returns-in-Err-finish-clause-stops
returns-in-Err-finish-clause-stops g c = (
  c.in-Err-finish.ensures.err,
  inr (all_told c.args.tables.now c.loop-index.index c.args.job.now.verbosity _ _ _ c.loop-index-test.false c.loop-index.invariant.told),
)

pub returns-in_err-merging-clause-stops : goal.returns-in_err-merging-clause-stops
returns-in_err-merging-clause-stops g c =
    let so_far = c.loop-index.invariant in
    passed_on c.from_residual.result c.in_err-merging.field-0.0 _ c.from_residual.ensures.1
    (stops_tables (g.T.ReadText.has c.args.texts.now) c.args.job.now.intervals c.args.job.now.plan.now c.args.tables.now c.loop-index.index _ _ c.loop-index-test.true refl (g.T.ReadText.refuses c.args.texts.now) c.loop-index.merging c.args.job.now.verbosity _ _ _ _ _ _
    so_far.told c.in_err-merging.ensures.stops c.add_table.ensures.kept so_far.stands)

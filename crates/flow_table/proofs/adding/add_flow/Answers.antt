use Rattle.std.proofs.Common.{ℕ, ◌+◌, List, Some, refl, sym, ap, ◌∙◌, arith}
use Rattle.std.proofs.lemmas.Result.{err_from_is_err_and}
use Rattle.flow_table.specs.Flows.{flow_total}
use Rattle.flow_table.specs.Rows.{kept_at}
use Rattle.flow_table.proofs.Runs.{last_large, step_words, large_words, run_step, run_none, run_large, run_whole, run_done}
use Rattle.flow_table.proofs.adding.add_flow.Goals as goal

pub loop-interval-init : goal.loop-interval-init
loop-interval-init c = record {
  of_plan = λ key are of. of;
  totals = λ key are of. run_none (kept_at c.args.plan.now c.args.rows.now) (flow_total c.args.plan.now c.args.flow.span.start c.args.flow.span.end c.args.room.now.counters.items) c.args.flow.first key;
  fits = λ k q small. small;
  words = refl;
  counters = refl;
}

pub loop-interval-preserved : goal.loop-interval-preserved
loop-interval-preserved c =
    let f = flow_total c.args.plan.now c.args.flow.span.start c.args.flow.span.end c.args.room.now.counters.items in
    let old = kept_at c.args.plan.now c.loop-interval.rows in
    let new = kept_at c.args.plan.now c.add_at.new.rows in
    let i = c.loop-interval.interval in
    let room = c.loop-interval.room in
    let read = c.args.room.now in
    let kept = ap (λ (ws : List ℕ). Some ws) (sym c.loop-interval.invariant.words) in
    record {
      of_plan = λ key are of. c.add_at.ensures.rows key (are ∙ kept) (c.loop-interval.invariant.of_plan key are of);
      totals = λ key are of. run_step (kept_at c.args.plan.now c.args.rows.now) old new f c.args.flow.first i (i + 1) key (omega arith) refl (c.loop-interval.invariant.totals key are of)
          (step_words old new c.args.plan.now c.args.flow.span.start c.args.flow.span.end i key room.counters.items read.counters.items c.loop-interval.invariant.counters
          (c.in_ok-add_at.ensures.ok key (are ∙ kept) (c.loop-interval.invariant.of_plan key are of)));
      fits = λ k q small. c.in_ok-add_at.ensures.fits k q;
      words = c.add_at.ensures.words ∙ c.loop-interval.invariant.words;
      counters = c.add_at.ensures.counters ∙ c.loop-interval.invariant.counters;
    }

pub returns-in_err-add_at-clause-large : goal.returns-in_err-add_at-clause-large
returns-in_err-add_at-clause-large c = λ key are of.
    let p = err_from_is_err_and c.from_residual.result c.from_residual.ensures.1 in
    let f = flow_total c.args.plan.now c.args.flow.span.start c.args.flow.span.end c.args.room.now.counters.items in
    let kept = ap (λ (ws : List ℕ). Some ws) (sym c.loop-interval.invariant.words) in
    rw (p.1, p.2) (λ same. (
      c.loop-interval.interval,
      c.add_at.ensures.at,
      run_whole c.args.plan.now c.args.flow.span.start c.args.flow.span.end key c.args.room.now.counters.items (kept_at c.args.plan.now c.args.rows.now) c.args.flow.first c.args.flow.count c.loop-interval.interval c.requires.intervals.covers
          (run_large (kept_at c.args.plan.now c.args.rows.now) (kept_at c.args.plan.now c.loop-interval.rows) f c.args.flow.first (c.args.flow.first + c.args.flow.count) c.loop-interval.interval key (omega arith) (omega arith)
          (c.loop-interval.invariant.totals key are of)
          (large_words (kept_at c.args.plan.now c.loop-interval.rows) c.args.plan.now c.args.flow.span.start c.args.flow.span.end c.loop-interval.interval key c.loop-interval.room.counters.items c.args.room.now.counters.items
          c.loop-interval.invariant.counters
          (last_large (kept_at c.args.plan.now c.loop-interval.rows)
          (flow_total c.args.plan.now c.args.flow.span.start c.args.flow.span.end c.loop-interval.room.counters.items c.loop-interval.interval)
          key c.loop-interval.interval _ c.add_at.ensures.at
          (c.in_err-add_at.ensures.large key (are ∙ kept) (c.loop-interval.invariant.of_plan key are of) same)))),
    ))

pub returns-clause-ok : goal.returns-clause-ok
returns-clause-ok c = λ key are of.
    run_done c.args.plan.now c.args.flow.span.start c.args.flow.span.end key c.args.room.now.counters.items (kept_at c.args.plan.now c.args.rows.now) (kept_at c.args.plan.now c.loop-interval.rows) c.args.flow.first c.args.flow.count c.loop-interval.interval c.requires.intervals.covers (omega arith) (c.loop-interval.invariant.totals key are of)

use Rattle.std.proofs.Common.{inl, inr, rules}
use Rattle.input_sources.proofs.Had.{all_opened, NextOnes-nil, one_came, one_longer, one_opened}
use Rattle.input_sources.proofs.InputsTold.{file_named, nothing_opened, opened_told, passed_on, stops_at}
use Rattle.input_sources.proofs.opening_all.open_all.Goals as goal

pub loop-index-init : goal.loop-index-init
loop-index-init g c = record {
  opened = search rules;
  came = rw c.new-sources.ensures (NextOnes-nil (g.O.OpenSource.coming c.args.files.now));
  same = λ name source opens. opens;
  same_size = λ name size sizes. sizes;
  same_reason = λ name reason refuses. refuses;
  named = search rules;
  count = search rules;
  told = nothing_opened (g.E.WriteLines.lines c.args.err.now).contents (g.E.WriteLines.lines c.args.err.now).failed c.args.verbosity c.new-origins.result.items (search rules);
  kept = λ failed. failed;
}

pub loop-index-preserved : goal.loop-index-preserved
loop-index-preserved g c =
    let so_far = c.loop-index.invariant in
    record {
      opened = one_opened _ c.args.paths.now c.loop-index.index _ _ _ _ c.loop-index-test.true c.in-Ok.ensures so_far.opened (so_far.same _ _ c.in_ok-source.ensures.opened);
      came = one_came _ _ _ _ _ _ c.in-Ok.ensures so_far.came c.in_ok-source.ensures.came;
      same = λ name source opens. so_far.same name source (c.open_watched.ensures.same name source opens);
      same_size = λ name size sizes. so_far.same_size name size (c.open_watched.ensures.same_size name size sizes);
      same_reason = λ name reason refuses. so_far.same_reason name reason (c.open_watched.ensures.same_reason name reason refuses);
      named = one_opened _ c.args.paths.now c.loop-index.index _ _ _ _ c.loop-index-test.true c.in-Ok-push.ensures.items so_far.named
          (file_named _ _ _ _ (λ size sizes. so_far.same_size _ size sizes) c.in_ok-source.ensures.named);
      count = one_longer _ _ _ _ c.in-Ok-push.ensures.items so_far.count;
      told = opened_told _ _ _ _ _ c.args.verbosity c.loop-index.origins.items _ _ _ c.write_opened.result c.in-Ok-push.ensures.items so_far.count so_far.told c.write_opened.ensures.told c.write_opened.ensures.failed c.write_opened.ensures.kept;
      kept = λ failed. c.write_opened.ensures.kept (so_far.kept failed);
    }

pub returns-clause-opened : goal.returns-clause-opened
returns-clause-opened g c = record {
  one_each = all_opened _ c.args.paths.now c.loop-index.index c.loop-index.sources c.loop-index-test.false c.loop-index.invariant.opened;
  came = c.loop-index.invariant.came;
}

pub returns-clause-named : goal.returns-clause-named
returns-clause-named g c = all_opened _ c.args.paths.now c.loop-index.index c.loop-index.origins.items c.loop-index-test.false c.loop-index.invariant.named

pub returns-in_err-source-clause-stops : goal.returns-in_err-source-clause-stops
returns-in_err-source-clause-stops g c =
    let so_far = c.loop-index.invariant in
    passed_on c.from_residual.result c.in_err-source.field-0.0 _ c.from_residual.ensures.1
    (stops_at (g.O.OpenSource.sizes c.args.files.now) (λ path. path.now) c.args.paths.now c.args.verbosity _ c.loop-index.index _ _ c.loop-index.origins.items c.loop-index-test.true c.in_err-source.ensures.stopped so_far.named so_far.told)

pub returns-in_default-clause-stops : goal.returns-in_default-clause-stops
returns-in_default-clause-stops g c =
    stops_at (g.O.OpenSource.sizes c.args.files.now) (λ path. path.now) c.args.paths.now c.args.verbosity _ c.loop-index.index _ _ c.loop-index.origins.items c.loop-index-test.true c.without_memory.ensures.path c.loop-index.invariant.named c.loop-index.invariant.told

pub returns-in_default-push-clause-stops : goal.returns-in_default-push-clause-stops
returns-in_default-push-clause-stops g c =
    stops_at (g.O.OpenSource.sizes c.args.files.now) (λ path. path.now) c.args.paths.now c.args.verbosity _ c.loop-index.index _ _ c.loop-index.origins.items c.loop-index-test.true c.without_memory-in_default-push.ensures.path c.loop-index.invariant.named c.loop-index.invariant.told

pub returns-in_err-source-clause-reason : goal.returns-in_err-source-clause-reason
returns-in_err-source-clause-reason g c =
    let so_far = c.loop-index.invariant in
    passed_on c.from_residual.result c.in_err-source.field-0.0 _ c.from_residual.ensures.1 (inl (so_far.same_reason _ _ (rw c.in_err-source.ensures.stopped c.in_err-source.ensures.reason)))

pub returns-in_default-clause-reason : goal.returns-in_default-clause-reason
returns-in_default-clause-reason g c = inr c.without_memory.ensures.reason

pub returns-in_default-push-clause-reason : goal.returns-in_default-push-clause-reason
returns-in_default-push-clause-reason g c = inr c.without_memory-in_default-push.ensures.reason

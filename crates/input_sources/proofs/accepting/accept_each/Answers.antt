use Rattle.std.proofs.Common.{inl, inr, refl, rules, arith}
use Rattle.std.proofs.lemmas.Option.{IfSome_then}
use Rattle.input_sources.proofs.Had.{NextOnes-nil, one_came, one_longer, one_more, one_peer}
use Rattle.input_sources.specs.Origins.{IsPeerOf}
use Rattle.input_sources.proofs.InputsTold.{always, even_if_ok, nothing_opened, opened_told, passed_on}
use Rattle.input_sources.proofs.accepting.accept_each.Goals as goal

pub loop-number-init : goal.loop-number-init
loop-number-init g c = record {
  one_each = search rules;
  asked = search rules;
  came = rw c.new-sources.ensures (NextOnes-nil (g.L.Listener.coming c.args.listener.now));
  same = λ limit source gives. gives;
  in_time = always c.args.idle (λ limit zero. refl);
  count = search rules;
  peers = search rules;
  same_peer = λ source address is. is;
  same_reason = λ reason refuses. refuses;
  told = nothing_opened (g.E.WriteLines.lines c.args.err.now).contents (g.E.WriteLines.lines c.args.err.now).failed c.args.verbosity c.new-origins.result.items (search rules);
  kept = λ failed. failed;
}

pub loop-number-preserved : goal.loop-number-preserved
loop-number-preserved g c =
    let so_far = c.loop-number.invariant in
    record {
      one_each = one_longer _ _ _ _ c.in-Ok.ensures so_far.one_each;
      asked = one_more (g.L.Listener.gives c.args.listener.now c.args.idle) _ _ _ c.in-Ok.ensures so_far.asked (rw c.new-watched.ensures (so_far.same _ _ c.in_ok-source.ensures.given));
      came = one_came _ _ _ _ _ _ c.in-Ok.ensures so_far.came (rw c.new-watched.ensures c.in_ok-source.ensures.came);
      same = λ limit source gives. so_far.same limit source (c.next_source.ensures.same limit source gives);
      in_time = IfSome_then c.args.idle c.in_ok-source.ensures.no_time (λ limit never zero. absurd (cc (never zero)));
      count = one_longer _ _ _ _ c.in-Ok-push.ensures.items so_far.count;
      peers = one_peer (IsPeerOf (g.L.Listener.is_of c.args.listener.now)) _ _ _ _ _ _ c.in-Ok.ensures c.in-Ok-push.ensures.items so_far.peers (rw c.new-watched.ensures (so_far.same_peer _ _ c.in_ok-source.ensures.peer));
      same_peer = λ source address is. so_far.same_peer source address (c.next_source.ensures.same_peer source address is);
      same_reason = λ reason refuses. so_far.same_reason reason (c.next_source.ensures.same_reason reason refuses);
      told = opened_told _ _ _ _ _ c.args.verbosity c.loop-number.origins.items _ _ _ c.write_opened.result c.in-Ok-push.ensures.items so_far.count so_far.told c.write_opened.ensures.told c.write_opened.ensures.failed c.write_opened.ensures.kept;
      kept = λ failed. c.write_opened.ensures.kept (so_far.kept failed);
    }

pub returns-in_default-clause-no_time : goal.returns-in_default-clause-no_time
returns-in_default-clause-no_time g c = always c.args.idle (λ limit zero some. refl)

pub returns-in_default-push-clause-no_time : goal.returns-in_default-push-clause-no_time
returns-in_default-push-clause-no_time g c = always c.args.idle (λ limit zero some. refl)

pub returns-clause-accepted : goal.returns-clause-accepted
returns-clause-accepted g c = record {
  one_each = search rules;
  asked = c.loop-number.invariant.asked;
  came = c.loop-number.invariant.came;
}

pub returns-clause-no_time : goal.returns-clause-no_time
returns-clause-no_time g c = IfSome_then c.args.idle c.loop-number.invariant.in_time (λ limit none zero some. absurd (omega (arith, none zero, some)))

pub returns-clause-peers : goal.returns-clause-peers
returns-clause-peers g c = c.loop-number.invariant.peers

pub returns-clause-told : goal.returns-clause-told
returns-clause-told g c = c.loop-number.invariant.told

pub returns-in_default-clause-stopped : goal.returns-in_default-clause-stopped
returns-in_default-clause-stopped g c = record {
  sources = c.loop-number.sources;
  origins = c.loop-number.origins.items;
  peers = c.loop-number.invariant.peers;
  told = c.loop-number.invariant.told;
}

pub returns-in_default-push-clause-stopped : goal.returns-in_default-push-clause-stopped
returns-in_default-push-clause-stopped g c = record {
  sources = c.loop-number.sources;
  origins = c.loop-number.origins.items;
  peers = c.loop-number.invariant.peers;
  told = c.loop-number.invariant.told;
}

pub returns-in_err-source-clause-stopped : goal.returns-in_err-source-clause-stopped
returns-in_err-source-clause-stopped g c = even_if_ok c.from_residual.result _ (record {
  sources = c.loop-number.sources;
  origins = c.loop-number.origins.items;
  peers = c.loop-number.invariant.peers;
  told = c.loop-number.invariant.told;
})

pub returns-in_default-clause-reason : goal.returns-in_default-clause-reason
returns-in_default-clause-reason g c = inr refl

pub returns-in_default-push-clause-reason : goal.returns-in_default-push-clause-reason
returns-in_default-push-clause-reason g c = inr refl

pub returns-in_err-source-clause-reason : goal.returns-in_err-source-clause-reason
returns-in_err-source-clause-reason g c =
    passed_on c.from_residual.result c.in_err-source.field-0.0 _ c.from_residual.ensures.1 (inl (c.loop-number.invariant.same_reason _ c.in_err-source.ensures.refused))

use Rattle.std.proofs.Common.{sym, subst, map}
use Rattle.std.specs.Io.KnownBytes.{Appends}
use Rattle.std.proofs.lemmas.Option.{get_or_from_slice_get, slice_get_within}
use Rattle.recording_order.specs.Counts.{counts_of}
use Rattle.recording_order.specs.declared.order_counts.OrderCounts.{OrderCounts}
use Rattle.recording_datagrams.specs.Ending.{domain_order_lines}
use Rattle.recording_datagrams.proofs.Told.{told_more}
use Rattle.recording_datagrams.proofs.ending.tell_counted.Goals as goal

pub loop-index-preserved : goal.loop-index-preserved
loop-index-preserved g c =
    let xs = map counts_of c.args.window.now.numbers in
    let i = c.loop-index.index in
    let x : OrderCounts = c.counts_at.result in
    let here = (g.W.WriteLines.lines c.loop-index.out).contents in
    let after = (g.W.WriteLines.lines c.tell_domain_order.new.out).contents in
    record {
      told = told_more (domain_order_lines c.args.peer) xs i x (g.W.WriteLines.lines c.args.out.now).contents here after (slice_get_within xs i x c.counts_at.ensures) c.loop-index.invariant.told
          (subst (λ (d : OrderCounts). Appends here after (domain_order_lines c.args.peer d)) (sym (get_or_from_slice_get xs i x x c.counts_at.ensures)) c.in_ok-tell_domain_order.ensures.told);
      kept = λ failed. c.tell_domain_order.ensures.kept (c.loop-index.invariant.kept failed);
    }

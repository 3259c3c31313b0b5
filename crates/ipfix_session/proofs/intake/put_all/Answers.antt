use Rattle.std.specs.Vec.Iter.{into_iter_items, into_iter_len}
use Rattle.std.proofs.Common.{rules}
use Rattle.ipfix_session.proofs.Putting.{put_next}
use Rattle.ipfix_session.proofs.intake.put_all.Goals as goal

pub loop-record-preserved : goal.loop-record-preserved
loop-record-preserved g c =
    let steps = c.in-Some.ensures.steps in
    put_next g.K.Sink.seen _ _ (into_iter_items c.next.new.self) _ _ _ _ (into_iter_len c.next.new.self) _ _ c.put.new.self c.in-Some.record c.loop-record.invariant steps.0 steps.1
    (search rules) (search rules) (search rules)

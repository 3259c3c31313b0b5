use Rattle.std.specs.Vec.Iter.{into_iter_items, into_iter_len}
use Rattle.ipfix_session.proofs.Putting.{Putting}
use Rattle.ipfix_session.proofs.intake.put_all.Given as goal

abbrev pub invariant-loop-record : goal.invariant-loop-record
invariant-loop-record g l = Putting g.K.Sink.seen l.fn.records.items l.initial.delivered l.delivered l.initial.sink l.sink (into_iter_items l.record-iterator) (into_iter_len l.record-iterator)

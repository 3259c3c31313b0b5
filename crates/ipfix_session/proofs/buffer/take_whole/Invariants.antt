use Rattle.std.proofs.Common.{length}
use Rattle.ipfix_session.proofs.MessagesTaken.{GoesOver}
use Rattle.ipfix_session.proofs.buffer.take_whole.Given as goal

abbrev pub invariant-loop-first : goal.invariant-loop-first
invariant-loop-first g l = GoesOver g.M.MessageSink.seen l.initial.messages l.messages l.initial.to l.to l.octets l.rest

abbrev pub decreases-loop-first : goal.decreases-loop-first
decreases-loop-first g l = length l.rest

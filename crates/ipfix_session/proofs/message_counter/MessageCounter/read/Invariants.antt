use Rattle.std.proofs.Common.{◌++◌, ℕ, List, length}
use Rattle.ipfix_session.specs.MessageCounts.{HasRead}
use Rattle.ipfix_session.specs.CounterPlaces.{IsReading}
use Rattle.ipfix_session.proofs.message_counter.MessageCounter.read.Given as goal

abbrev pub invariant-loop-left : goal.invariant-loop-left
invariant-loop-left l = (text : List ℕ) → HasRead l.initial.self text → IsReading l.self l.left (text ++ l.piece)

abbrev pub decreases-loop-left : goal.decreases-loop-left
decreases-loop-left l = length l.left

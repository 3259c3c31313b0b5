use Rattle.std.proofs.Common.{◌≡◌, ℕ, List, Some}
use Rattle.ipfix_session.specs.Walked.{Walked}
use Rattle.ipfix_session.proofs.message_walk.walk.Given as goal

-- the text that was read, whose whole messages are counted
abbrev pub invariant-loop : goal.invariant-loop
invariant-loop g l = (text : List ℕ) → g.R.Read.remaining l.fn.reader ≡ Some text → Walked (g.R.Read.remaining l.reader) text l.whole

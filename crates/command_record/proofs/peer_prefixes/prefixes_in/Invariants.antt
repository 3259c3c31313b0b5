use Rattle.std.proofs.Common.{take}
use Rattle.command_record.specs.PeerPrefixes.{ArePrefixes}
use Rattle.command_record.proofs.peer_prefixes.prefixes_in.Given as goal

-- the prefixes of the words so far
abbrev pub invariant-loop-word : goal.invariant-loop-word
invariant-loop-word l = ArePrefixes (take l.word-index l.words) l.prefixes.items

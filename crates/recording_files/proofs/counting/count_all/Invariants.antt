use Rattle.std.proofs.Common.{length, take}
use Rattle.std.specs.Prelude.{◌-◌}
use Rattle.ipfix_session.specs.Rooms.{HasRoom}
use Rattle.recording_files.specs.Counting.{told_of}
use Rattle.recording_files.specs.Counting.{CountsUpTo}
use Rattle.recording_files.proofs.counting.count_all.Given as goal

abbrev pub invariant-loop-message : goal.invariant-loop-message
invariant-loop-message l = record {
  room : HasRoom l.tally.ledger (length l.messages - l.message-index);
  counts : CountsUpTo (told_of l.initial.tally l.initial.file) (told_of l.tally l.file) (take l.message-index l.messages);
}

use Rattle.std.proofs.Common.{◌≡◌, ◌+◌, ◌≤◌, false, filter, length}
use Rattle.ipfix_message.specs.Domains.{History, StandsFor}
use Rattle.recording_files.specs.Heads.{count_in, is_written, number_at}
use Rattle.recording_files.proofs.head.count_in.Given as goal

abbrev pub invariant-loop-first : goal.invariant-loop-first
invariant-loop-first l = record {
  few : l.count + length l.left ≤ length l.kept;
  is : l.domains.spent ≡ false → (ds : History) → StandsFor l.domains.domains ds
      → l.count + count_in l.domain (filter (is_written ds (number_at l.due.entries l.start)) l.left) ≡ count_in l.domain (filter (is_written ds (number_at l.due.entries l.start)) l.kept);
}

abbrev pub decreases-loop-first : goal.decreases-loop-first
decreases-loop-first l = length l.left

use Rattle.std.proofs.Common.{◌≡◌, false, length}
use Rattle.ipfix_message.specs.Domains.{History, StandsFor}
use Rattle.recording_files.specs.Heads.{number_at}
use Rattle.recording_files.proofs.HeadsWritten.{HeadSoFar}
use Rattle.recording_files.proofs.head.append_head.Given as goal

abbrev pub invariant-loop-first : goal.invariant-loop-first
invariant-loop-first l = l.domains.spent ≡ false → (ds : History) → StandsFor l.domains.domains ds
    → HeadSoFar ds (number_at l.due.entries l.start) l.start.export_time l.kept l.left l.fn.out.items l.out.items

abbrev pub decreases-loop-first : goal.decreases-loop-first
decreases-loop-first l = length l.left

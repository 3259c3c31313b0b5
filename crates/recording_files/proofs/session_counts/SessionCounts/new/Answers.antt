use Rattle.std.proofs.Common.{refl}
use Rattle.recording_files.proofs.Counts.{counted-first}
use Rattle.recording_files.proofs.session_counts.SessionCounts.new.Goals as goal

pub returns : goal.returns
returns c = counted-first _ c.new.ensures refl

use Rattle.std.proofs.Common.{◌≡◌, false, length}
use Rattle.std.specs.Prelude.{fold}
use Rattle.ipfix_message.specs.Domains.{History, StandsFor}
use Rattle.recording_files.specs.KeptOptions.{kept_with}
use Rattle.recording_files.proofs.kept_options.keep_options.Given as goal

abbrev pub invariant-loop-item : goal.invariant-loop-item
invariant-loop-item l = l.domains.spent ≡ false → (ds : History) → StandsFor l.domains.domains ds → fold (kept_with ds) l.kept.items l.left ≡ fold (kept_with ds) l.fn.kept.items l.records

abbrev pub decreases-loop-item : goal.decreases-loop-item
decreases-loop-item l = length l.left

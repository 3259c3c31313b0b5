use Rattle.std.proofs.Common.{◌≡◌, ◌++◌, length}
use Rattle.exporter_names.specs.RecordedExporters.{with_colons}
use Rattle.exporter_names.proofs.recorded_names.with_colons.Given as goal

abbrev pub invariant-loop-left : goal.invariant-loop-left
invariant-loop-left l = with_colons l.initial.left ≡ l.octets.items ++ with_colons l.left

abbrev pub decreases-loop-left : goal.decreases-loop-left
decreases-loop-left l = length l.left

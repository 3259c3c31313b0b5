use Rattle.std.proofs.Common.{◌≡◌, length}
use Rattle.std.specs.Prelude.{find}
use Rattle.command_explain.specs.Explained.{names}
use Rattle.command_explain.proofs.explaining.find_fault.Given as goal

abbrev pub invariant-loop-faults : goal.invariant-loop-faults
invariant-loop-faults l = find (names l.word) l.faults ≡ find (names l.word) l.initial.faults

abbrev pub decreases-loop-faults : goal.decreases-loop-faults
decreases-loop-faults l = length l.faults

use Rattle.std.proofs.Common.{◌≡◌, length}
use Rattle.std.specs.Prelude.{find}
use Rattle.command_explain.specs.RunFaults.{names_run_fault}
use Rattle.command_explain.proofs.run_explaining.find_run_fault.Given as goal

abbrev pub invariant-loop-faults : goal.invariant-loop-faults
invariant-loop-faults l = find (names_run_fault l.word) l.faults ≡ find (names_run_fault l.word) l.initial.faults

abbrev pub decreases-loop-faults : goal.decreases-loop-faults
decreases-loop-faults l = length l.faults

use Rattle.std.proofs.Common.{take, All}
use Rattle.command_collect.proofs.WentWell.{NoFault}
use Rattle.command_collect.proofs.ending.have_no_fault.Given as goal

-- the first sessions have no fault
abbrev pub invariant-loop-full : goal.invariant-loop-full
invariant-loop-full l = All NoFault (take l.full-index l.reports)

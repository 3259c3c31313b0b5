use Rattle.std.proofs.Common.{take}
use Rattle.std.specs.List.{flat_map}
use Rattle.std.specs.Io.KnownBytes.{Appends}
use Rattle.command_explain.specs.RunFaults.{further_place}
use Rattle.command_explain.proofs.run_explaining.write_further_places.Given as goal

abbrev pub invariant-loop-fault : goal.invariant-loop-fault
invariant-loop-fault g l = Appends (g.W.Write.contents l.initial.out) (g.W.Write.contents l.out) (flat_map further_place (take l.fault-index l.faults))

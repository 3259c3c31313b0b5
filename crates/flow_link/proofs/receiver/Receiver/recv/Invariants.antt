use Rattle.std.proofs.Common.{◌≡◌}
use Rattle.flow_link.proofs.receiver.Receiver.recv.Given as goal

abbrev pub invariant-loop : goal.invariant-loop
invariant-loop g l = l.self ≡ l.initial.self

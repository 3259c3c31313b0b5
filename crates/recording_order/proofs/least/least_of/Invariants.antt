use Rattle.std.proofs.Common.{◌≡◌, ◌<◌, length, drop, None}
use Rattle.std.specs.Prelude.{IfSome}
use Rattle.recording_order.specs.Leasts.{least_from}
use Rattle.recording_order.proofs.least.least_of.Given as goal

abbrev pub invariant-loop-index : goal.invariant-loop-index
invariant-loop-index l = record {
  rest : least_from l.domain l.due l.index l.least (drop l.index l.datagrams) ≡ least_from l.domain l.due 0 None l.datagrams;
  within : IfSome l.least (λ least. least.index < length l.datagrams);
}

use Rattle.std.proofs.Common.{List}
use Rattle.std.specs.BTreeMap.{values}
use Rattle.ipfix_message.specs.Domains.{Message}
use Rattle.ipfix_datagrams.specs.Datagrams.{Preparation}
use Rattle.recording_peer.specs.Fronts.{TakesDefinitions}
use Rattle.recording_peer.proofs.fronts.take_definitions.Given as goal

abbrev pub invariant-loop-known : goal.invariant-loop-known
invariant-loop-known l = (before here : List Message) (p : Preparation) → TakesDefinitions before here l.fn.recorder l.header p (values l.defined) l.fn.out.items
    → TakesDefinitions before here l.recorder l.header p l.known-iterator l.out.items

use Rattle.std.proofs.Common.{◌≡◌}
use Rattle.std.specs.Prelude.{nat_lt}
use Rattle.std.specs.List.{list_any}
use Rattle.recording_peer.specs.Places.{fields_left, has_template}
use Rattle.recording_peer.proofs.peer_recorder.PeerRecorder.has_template.Given as goal

abbrev pub invariant-loop-domain : goal.invariant-loop-domain
invariant-loop-domain l = list_any (λ e. nat_lt 0 (fields_left l.self e)) l.domain-iterator ≡ has_template l.self

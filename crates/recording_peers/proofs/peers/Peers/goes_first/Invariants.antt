use Rattle.std.proofs.Common.{◌≡◌, not}
use Rattle.std.specs.Option.{option_or}
use Rattle.recording_peer.specs.Places.{has_record, has_template}
use Rattle.recording_peers.specs.Table.{last_of, address_of}
use Rattle.recording_peers.proofs.peers.Peers.goes_first.Given as goal

abbrev pub invariant-loop-peer : goal.invariant-loop-peer
invariant-loop-peer g l = record {
  can : (goal.iterator-loop-peer g).can_next l.peer-iterator;
  finite : (goal.iterator-loop-peer g).is_finite l.peer-iterator;
  template : option_or (address_of (last_of (λ k. not (has_template k.recorder)) l.peer-iterator)) l.without_template ≡ address_of (last_of (λ k. not (has_template k.recorder)) l.self.kept.entries);
  records : option_or (address_of (last_of (λ k. not (has_record k.recorder)) l.peer-iterator)) l.without_record ≡ address_of (last_of (λ k. not (has_record k.recorder)) l.self.kept.entries);
}

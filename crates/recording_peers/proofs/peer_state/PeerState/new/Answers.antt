use Rattle.std.proofs.Common.{[], refl, ap}
use Rattle.recording_order.specs.Counts.{with_counts_begun}
use Rattle.recording_peer.specs.Recording.{none_filed}
use Rattle.recording_peers.proofs.peer_state.PeerState.new.Goals as goal

pub returns-clause-session : goal.returns-clause-session
returns-clause-session g c = record {
  recording = record { limits = c.args.limits; first = g.F.FileSeries.seen c.args.files; filed = none_filed c.args.earlier; said = [] };
  bounds = refl;
  recorded = record {
    empty = c.requires;
    is = c.new.ensures.peer (g.F.FileSeries.seen c.args.files) c.requires;
    bounds = λ i. record { reorder = c.new.ensures.reorder i; templates = c.new.ensures.budget i };
    settles = record { taken = (refl, λ i domain. c.new.ensures.barred domain i); ignored = refl };
  };
  window = ap with_counts_begun c.new-2.ensures;
}

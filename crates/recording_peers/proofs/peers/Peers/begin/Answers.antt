use Rattle.std.proofs.Common.{subst, sym}
use Rattle.recording_peers.proofs.Recording.{begins_with}
use Rattle.recording_peers.proofs.peers.Peers.begin.Goals as goal

pub returns-clause-begun : goal.returns-clause-begun
returns-clause-begun g c =
    let old = c.args.self.now in
    begins_with g.F.FileSeries.seen g.P.PeerPlace.made_for old.limits old.kept.cap c.args.peer _ c.put_in.result old.kept.entries c.put_in.new.self.kept.entries c.new-session.result (record {
      session = c.new-session.ensures.session;
      made = subst (λ f. g.P.PeerPlace.made_for f c.args.peer) (sym c.new-session.ensures.files) c.in_ok-files.ensures.made;
      earlier = c.new-session.ensures.earlier;
      none_told = c.new-session.ensures.none_told;
    }) c.put_in.ensures.gone c.put_in.ensures.none

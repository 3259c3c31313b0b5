use Rattle.recording_peers.proofs.Standing.{stand_after}
use Rattle.recording_peers.proofs.laws.sessions_stand_for_their_datagrams.Goals as goal

pub returns : goal.returns
returns g c = λ s most r after t. stand_after g.F.FileSeries.seen g.P.PeerPlace.made_for (record { asked = c.only_what_was_handed_on_is_asked.ensures.run; step_alike = c.counts_change_nothing.ensures.step; finish_alike = c.counts_change_nothing.ensures.finish; told = c.counts_change_nothing.ensures.told }) s.limits most r s.sessions after s.own s.stand t

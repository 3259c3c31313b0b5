use Rattle.recording_peers.proofs.Alone.{alone, stand_after_all}
use Rattle.recording_peers.proofs.laws.sessions_stand_for_their_own.Goals as goal

pub returns-clause-stand : goal.returns-clause-stand
returns-clause-stand g c = λ s most rs after t. stand_after_all g.F.FileSeries.seen g.P.PeerPlace.made_for (record { asked = c.only_what_was_handed_on_is_asked.ensures.run; step_alike = c.counts_change_nothing.ensures.step; finish_alike = c.counts_change_nothing.ensures.finish; told = c.counts_change_nothing.ensures.told }) s.limits most rs s.sessions after s.own s.stand t

pub returns-clause-own : goal.returns-clause-own
returns-clause-own g c = λ rs cs peer. alone peer rs cs

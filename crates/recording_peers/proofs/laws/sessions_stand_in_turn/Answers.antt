use Rattle.recording_peers.proofs.Turning.{stand_in_turn}
use Rattle.recording_peers.proofs.laws.sessions_stand_in_turn.Goals as goal

pub returns : goal.returns
returns g c = λ s second is_over after t goes_on. stand_in_turn g.F.FileSeries.seen s.limits (record { asked = c.only_what_was_handed_on_is_asked.ensures.run; step_alike = c.counts_change_nothing.ensures.step; finish_alike = c.counts_change_nothing.ensures.finish; told = c.counts_change_nothing.ensures.told }) second is_over s.sessions after s.own t s.stand goes_on

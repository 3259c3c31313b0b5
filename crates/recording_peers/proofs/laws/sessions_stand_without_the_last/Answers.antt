use Rattle.recording_peers.proofs.Turning.{before_last, last_beside}
use Rattle.recording_peers.proofs.laws.sessions_stand_without_the_last.Goals as goal

pub returns : goal.returns
returns g c = record {
  last = λ s. last_beside g.F.FileSeries.seen s.limits s.sessions s.own s.stand;
  others = λ s. before_last g.F.FileSeries.seen s.limits s.sessions s.own s.stand;
}

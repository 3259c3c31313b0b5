use Rattle.recording_datagrams.proofs.HeardLast.{nobody_silent}
use Rattle.recording_datagrams.proofs.laws.nobody_stays_silent.Goals as goal

pub returns : goal.returns
returns g c = λ run r new is later. nobody_silent g.F.FileSeries.seen g.F.RecordingFiles.finishes g.P.PeerPlace.made_for g.P.PeriodClock.asked run r new is later

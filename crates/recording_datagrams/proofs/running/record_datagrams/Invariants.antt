use Rattle.recording_datagrams.specs.Rounds.{TakesRounds}
use Rattle.recording_datagrams.proofs.running.record_datagrams.Given as goal

abbrev pub invariant-loop : goal.invariant-loop
invariant-loop g l =
    TakesRounds g.F.FileSeries.seen g.F.RecordingFiles.finishes g.P.PeerPlace.made_for g.P.PeriodClock.asked g.D.DatagramSource.answered g.W.WriteLines.lines l.counter l.fn.source l.source l.fn.taker l.taker l.told

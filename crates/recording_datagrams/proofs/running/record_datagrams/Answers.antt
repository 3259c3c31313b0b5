use Rattle.recording_datagrams.proofs.RoundLemmas.{one_more_round}
use Rattle.recording_datagrams.proofs.running.record_datagrams.Goals as goal

pub loop-preserved : goal.loop-preserved
loop-preserved g c =
    rw c.and-told.ensures
    (one_more_round g.F.FileSeries.seen g.F.RecordingFiles.finishes g.P.PeerPlace.made_for g.P.PeriodClock.asked g.D.DatagramSource.answered g.W.WriteLines.lines c.loop.counter c.args.source.now c.loop.source _
    c.args.taker.now c.loop.taker _ c.loop.told c.take_round.result c.loop.invariant c.take_round.ensures)

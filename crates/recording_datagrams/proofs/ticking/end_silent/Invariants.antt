use Rattle.recording_peers.specs.Steps.{KeepsLimits}
use Rattle.recording_datagrams.specs.Ending.{TellsSome}
use Rattle.recording_datagrams.proofs.GoingOver.{EndedBehind}
use Rattle.recording_datagrams.proofs.ticking.end_silent.Given as goal

abbrev pub invariant-loop : goal.invariant-loop
invariant-loop g l =
    TellsSome g.W.WriteLines.lines l.fn.out l.out l.told (EndedBehind g.F.FileSeries.seen g.F.RecordingFiles.finishes l.since l.fn.peers.kept.entries l.peers.kept.entries l.counter)
    × KeepsLimits l.fn.peers l.peers

use Rattle.recording_peers.specs.Steps.{KeepsLimits}
use Rattle.recording_datagrams.specs.Ending.{TellsSome}
use Rattle.recording_datagrams.proofs.GoingOver.{GoneOver}
use Rattle.recording_datagrams.proofs.ticking.go_over.Given as goal

abbrev pub invariant-loop : goal.invariant-loop
invariant-loop g l =
    TellsSome g.W.WriteLines.lines l.fn.out l.out l.told (GoneOver g.F.FileSeries.seen g.F.RecordingFiles.finishes l.second l.is_over l.fn.peers.kept.entries l.peers.kept.entries l.counter)
    × KeepsLimits l.fn.peers l.peers

use Rattle.recording_files.specs.Gathering.{IsFresh}
use Rattle.recording_files.specs.Files.{IsEmpty}
use Rattle.recording_files.proofs.ReadOn.{Reading}
use Rattle.recording_files.proofs.recording.record_through.Given as goal

abbrev pub invariant-loop : goal.invariant-loop
invariant-loop g l =
    IsFresh l.fn.limits.templates l.fn.gathering → IsEmpty (g.F.FileSeries.seen l.fn.files).contents
    → Reading g.S.Source.seen g.C.PeriodClock.asked l.fn.limits.templates l.counter l.fn.source l.source l.fn.clock l.clock (g.F.FileSeries.seen l.fn.files) (g.F.FileSeries.seen l.files) l.gathering l.begun.items

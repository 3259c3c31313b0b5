use Rattle.recording_files.proofs.ReadOn.{records_nowhere}
use Rattle.recording_files.proofs.recording.record_gathering.Goals as goal

pub returns-in-Ok : goal.returns-in-Ok
returns-in-Ok g c = λ new fresh. c.record_through.ensures new fresh

pub returns-in-Err : goal.returns-in-Err
returns-in-Err g c = λ new fresh.
    records_nowhere g.S.Source.seen g.F.FileSeries.seen g.C.PeriodClock.asked c.args.limits c.args.source.now c.args.files.now c.args.clock.now c.args.gathering.now new fresh

use Rattle.recording_connections.specs.Serving.{limits_of, views}
use Rattle.recording_connections.proofs.Told.{served-told, told-and}
use Rattle.recording_connections.proofs.running.serve_session.Goals as goal

pub returns : goal.returns
returns g c =
    let sees = views g.S.Source.seen g.S.Source.failure g.F.FileSeries.seen g.C.PeriodClock.asked g.F.RecordingFiles.finishes in
    served-told sees (g.P.SessionPlace.makes c.args.recorder.now.place) c.args.connection.now c.record_connection.new.connection c.args.number.number (limits_of c.args.recorder.now.order.now) c.args.recorder.now.order.now.verbosity _ _
    (λ lines told. told-and _ _ _ _ _ _ _ _ _ c.and.ensures
    (told-and _ _ _ _ _ _ _ _ _ c.and-told.ensures c.write_event-told.ensures told)
    c.write_event.ensures)
    (rw c.limits.ensures at c.record_connection.ensures)

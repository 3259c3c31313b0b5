use Rattle.std.proofs.Common.{ℕ, Ok, inl, subst}
use Rattle.recording_connections.proofs.serving.record_connection.Goals as goal

pub returns-in-Ok : goal.returns-in-Ok
returns-in-Ok g c =
    let Makes = λ (number : ℕ). g.P.SessionPlace.makes c.args.place.now c.args.connection.now.peer number (Ok c.in-Ok.recording) in
    inl (c.in-Ok.recording, subst Makes c.get.ensures c.in-Ok.ensures.made, c.record_source.ensures)

use Rattle.std.proofs.Common.{refl}
use Rattle.recording_peer.specs.Recording.{PeerView, known_shown, left_listed}
use Rattle.recording_peer.proofs.Refusing.{bars_shown}
use Rattle.recording_peer.proofs.peer_recorder.PeerRecorder.refuse_too_much.Goals as goal

pub returns-in-Ok-clause-bars : goal.returns-in-Ok-clause-bars
returns-in-Ok-clause-bars c =
    let inside : PeerView = record { recorder = c.self.inside.recorder; earlier = left_listed c.self.inside.earlier.entries; known = known_shown c.self.inside.known; told = record { counts = c.self.inside.counts.told; ignored = c.self.inside.ignored; advances = c.self.inside.advances.reaches; resumed = c.self.inside.resumed.items }; ended = c.self.inside.ended } in
    bars_shown inside c.args.self.now c.self.inside.known c.bar.new.self c.args.header.now.domain c.args.ids.now c.self.view_is refl c.in-Ok.ensures

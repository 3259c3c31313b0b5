use Rattle.std.proofs.Common.{refl, None}
use Rattle.recording_peers.specs.Steps.{Reception}
use Rattle.recording_peers.proofs.Recording.{recorded_kept}
use Rattle.recording_peers.proofs.peers.Peers.record.Goals as goal

pub returns-in-Some-clause-records : goal.returns-in-Some-clause-records
returns-in-Some-clause-records g c =
    let r : Reception g.row.F.Denot = record { peer = c.args.peer; octets = c.args.datagram.now; second = c.args.second; became = c.in-Some.became; gone = None } in
    recorded_kept g.F.FileSeries.seen g.P.PeerPlace.made_for c.args.self.now.limits c.args.self.now.kept.cap r c.args.self.now.kept.entries c.take.new.self.kept.entries c.in-Some.ensures.taken refl

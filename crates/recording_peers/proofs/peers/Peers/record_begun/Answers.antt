use Rattle.std.proofs.Common.{refl}
use Rattle.recording_peers.specs.Steps.{Reception}
use Rattle.recording_peers.specs.Table.{address_of}
use Rattle.recording_peers.proofs.Tables.{begun}
use Rattle.recording_peers.proofs.Recording.{recorded_new}
use Rattle.recording_peers.proofs.peers.Peers.record_begun.Goals as goal

pub returns-in-Some-clause-records : goal.returns-in-Some-clause-records
returns-in-Some-clause-records g c =
    let new = c.in-Ok.ensures.begun in
    let r : Reception g.row.F.Denot = record { peer = c.args.peer; octets = c.args.datagram.now; second = c.args.second; became = c.in-Some.became; gone = c.in-Ok.gone } in
    recorded_new g.F.FileSeries.seen g.P.PeerPlace.made_for c.args.self.now.limits c.args.self.now.kept.cap r
    c.args.self.now.kept.entries c.begin.new.self.kept.entries c.take.new.self.kept.entries new.0 c.requires.new (record { left = _; begins = new.1; by = c.requires.begins }) new.2 c.in-Some.ensures.taken

pub returns-in-None-clause-records : goal.returns-in-None-clause-records
returns-in-None-clause-records g c =
    let new = c.in-Ok.ensures.begun in
    let there = begun c.args.peer (address_of c.in-Ok.gone) c.args.self.now.kept.entries new.0 c.requires.new in
    let are = new.2.others in
    let nothing = c.in-None.ensures.unknown refl in
    absurd cc

use Rattle.std.proofs.Common.{refl, subst, inl, inr}
use Rattle.recording_peer.specs.Beginnings.{BeginsAs, resumed_first}
use Rattle.recording_peers.proofs.peers.Peers.record_first.Goals as goal

pub returns-then-lacks_room-clause-records : goal.returns-then-lacks_room-clause-records
returns-then-lacks_room-clause-records g c =
    record { nothing = record { begins = c.requires; same = refl; none_went = refl }; why = inr (c.lacks_room.ensures c.if-lacks_room.true) }

pub record_begun-requires-clause-begins : goal.record_begun-requires-clause-begins
record_begun-requires-clause-begins g c =
    let m = c.args.datagram.now in
    subst (BeginsAs c.args.self.now.limits.templates (resumed_first c.earlier-earlier.result m) m) c.in-Ok-Begins.field-0-is c.in-Ok-Begins.ensures

pub returns-in-Ok-PassesBy-clause-records : goal.returns-in-Ok-PassesBy-clause-records
returns-in-Ok-PassesBy-clause-records g c =
    let m = c.args.datagram.now in
    let none = subst (BeginsAs c.args.self.now.limits.templates (resumed_first c.earlier-earlier.result m) m) c.in-Ok-PassesBy.field-0-is c.in-Ok-PassesBy.ensures in
    record { nothing = record { begins = c.requires; same = refl; none_went = refl }; why = inl (c.earlier-earlier.result, inl none.1) }

pub returns-in-Ok-BeginsNone-clause-records : goal.returns-in-Ok-BeginsNone-clause-records
returns-in-Ok-BeginsNone-clause-records g c =
    let m = c.args.datagram.now in
    let none = subst (BeginsAs c.args.self.now.limits.templates (resumed_first c.earlier-earlier.result m) m) c.in-Ok-BeginsNone.field-0-is c.in-Ok-BeginsNone.ensures in
    record { nothing = record { begins = c.requires; same = refl; none_went = refl }; why = inl (c.earlier-earlier.result, inr none) }

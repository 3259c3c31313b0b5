use Rattle.std.proofs.Common.{◌≡◌, ℕ, List, true, false, sym, ap, subst, ◌∙◌}
use Rattle.std.proofs.lemmas.Result.{err_from_is_err_and}
use Rattle.recording_peer.specs.Fronts.{ReadsWhere}
use Rattle.recording_peer.specs.Late.{is_late}
use Rattle.recording_peer.specs.Peers.{known_after_all}
use Rattle.recording_peer.specs.Recording.{PeerView, known_shown, taken_in}
use Rattle.recording_peer.proofs.Lateness.{barred_is, fails_late, reads_late, reads_on_time}
use Rattle.recording_peer.proofs.Listed.{keeps_known}
use Rattle.recording_peer.proofs.Taking.{inside_of, represents}
use Rattle.recording_peer.proofs.peer_recorder.PeerRecorder.read.Goals as goal

pub returns-then-not-is_late-clause-reads : goal.returns-then-not-is_late-clause-reads
returns-then-not-is_late-clause-reads c = λ first after filed p.
    let s = c.args.self.now in
    let h = c.args.header.now in
    let shown : known_shown c.self.inside.known ≡ s.known = ap (λ (v : PeerView). v.known) c.self.view_is in
    let not_late : is_late s.known.reorder (taken_in filed) h ≡ false = sym (c.is_late.ensures first after filed p) ∙ c.if-not-is_late.true in
    reads_on_time s filed c.args.second c.args.datagram.now h c.barred_in-barred.result.now c.read_where.result not_late
    (barred_is s c.self.inside.known c.barred_in-barred.result.now h.domain shown c.barred_in-barred.ensures) (c.read_where.ensures.reads first after filed p)

pub returns-in_err-barred-clause-reads : goal.returns-in_err-barred-clause-reads
returns-in_err-barred-clause-reads c = λ first after filed p.
    let s = c.args.self.now in
    let h = c.args.header.now in
    let known = known_after_all (taken_in filed) in
    let now = inside_of c.self.view_is p in
    let shown : known_shown c.self.inside.known ≡ s.known = ap (λ (v : PeerView). v.known) c.self.view_is in
    let late : is_late s.known.reorder (taken_in filed) h ≡ true = sym (c.is_late.ensures first after filed p) ∙ c.if-not-is_late.false in
    let e = err_from_is_err_and c.from_residual.result c.from_residual.ensures.1 in
    rw (e.1, e.2) (fails_late s c.self.inside.known filed c.args.second c.args.datagram.now h c.in_err-barred.field-0.0 shown p.times late
    (c.in_err-barred.ensures.refused known (represents c.domains-domains.result.now now c.domains-domains.ensures) (keeps_known c.self.inside.known known now.withdrawn now.fits)))

pub returns-clause-reads : goal.returns-clause-reads
returns-clause-reads c = λ first after filed p.
    let s = c.args.self.now in
    let h = c.args.header.now in
    let known = known_after_all (taken_in filed) in
    let now = inside_of c.self.view_is p in
    let shown : known_shown c.self.inside.known ≡ s.known = ap (λ (v : PeerView). v.known) c.self.view_is in
    let late : is_late s.known.reorder (taken_in filed) h ≡ true = sym (c.is_late.ensures first after filed p) ∙ c.if-not-is_late.false in
    let m = c.args.datagram.now in
    let barred = c.in_ok-barred.barred.items in
    let result = c.read_where-2.result in
    reads_late s c.self.inside.known filed c.args.second m h barred result shown p.times late
    (c.in_ok-barred.ensures.read known (represents c.domains-domains.result.now now c.domains-domains.ensures) (keeps_known c.self.inside.known known now.withdrawn now.fits))
    (subst (λ (ids : List ℕ). ReadsWhere s m ids result filed) c.deref.ensures.value (c.read_where-2.ensures.reads first after filed p))

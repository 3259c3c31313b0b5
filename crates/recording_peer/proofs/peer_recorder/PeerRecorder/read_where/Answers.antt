use Rattle.std.proofs.Common.{◌≡◌, Some, None, List, [], sym, ap, subst, ◌∙◌, rules}
use Rattle.std.specs.Prelude.{MatchResult}
use Rattle.std.specs.Ordering.{nat_cmp}
use Rattle.std.specs.BTreeMap.{get, values}
use Rattle.ipfix_message.specs.declared.record.Template.{Template}
use Rattle.ipfix_datagrams.specs.Datagrams.{IsRefused, Answers as AnswersOf}
use Rattle.ipfix_datagrams.proofs.Answered.{no_values}
use Rattle.recording_resumption.specs.Resumption.{resumed_by}
use Rattle.recording_peer.specs.Peers.{known_after_all, resumed_of}
use Rattle.recording_peer.specs.Recording.{PeerView, resumed_for, taken_in}
use Rattle.recording_peer.proofs.Leaving.{left_as_kept, resumed_now, resumed_with}
use Rattle.recording_peer.proofs.Listed.{keeps_known, reads_as}
use Rattle.recording_peer.proofs.Taking.{inside_of, represents}
use Rattle.recording_peer.proofs.peer_recorder.PeerRecorder.read_where.Goals as goal

pub returns-in-Some-clause-reads : goal.returns-in-Some-clause-reads
returns-in-Some-clause-reads c = λ first after filed p.
    let m = c.args.datagram.now in
    let h = c.args.header.now in
    let known = known_after_all (taken_in filed) in
    let now = inside_of c.self.view_is p in
    let found : resumed_by (get nat_cmp c.self.inside.earlier h.domain) h ≡ Some c.in-Some.domain.now = search rules in
    let is : resumed_for filed m ≡ resumed_of (Some c.in-Some.domain.now) = resumed_with filed m h c.requires ∙ sym (resumed_now c.self.inside.earlier filed h (left_as_kept c.self.inside.earlier filed.earlier (taken_in filed) now.left)) ∙ ap resumed_of found in
    reads_as c.args.self.now c.self.inside.known filed m (resumed_of (Some c.in-Some.domain.now)) c.args.barred.now c.read_datagram.result (ap (λ (s : PeerView). s.known) c.self.view_is) is
    (c.read_datagram.ensures.reads known (represents c.domains-domains.result.now now c.domains-domains.ensures) (keeps_known c.self.inside.known known now.withdrawn now.fits))

pub returns-in-None-clause-reads : goal.returns-in-None-clause-reads
returns-in-None-clause-reads c = λ first after filed p.
    let m = c.args.datagram.now in
    let h = c.args.header.now in
    let known = known_after_all (taken_in filed) in
    let now = inside_of c.self.view_is p in
    let found : resumed_by (get nat_cmp c.self.inside.earlier h.domain) h ≡ None = search rules in
    let is : resumed_for filed m ≡ resumed_of None = resumed_with filed m h c.requires ∙ sym (resumed_now c.self.inside.earlier filed h (left_as_kept c.self.inside.earlier filed.earlier (taken_in filed) now.left)) ∙ ap resumed_of found in
    let none : values c.new-none.result ≡ [] = no_values c.new-none.result c.new-none.ensures.len in
    reads_as c.args.self.now c.self.inside.known filed m (resumed_of None) c.args.barred.now c.read_datagram-in-None.result (ap (λ (s : PeerView). s.known) c.self.view_is) is
    (subst (λ (ts : List Template). MatchResult c.read_datagram-in-None.result (AnswersOf (record { resumed = ts; barred = c.args.barred.now }) c.self.inside.known.budget known m) (IsRefused (record { resumed = ts; barred = c.args.barred.now }) known m)) none
    (c.read_datagram-in-None.ensures.reads known (represents c.domains-domains.result.now now c.domains-domains.ensures) (keeps_known c.self.inside.known known now.withdrawn now.fits)))

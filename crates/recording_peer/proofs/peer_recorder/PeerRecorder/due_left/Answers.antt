use Rattle.std.proofs.Common.{◌≡◌, Some, None, sym, ap, ◌∙◌, rules}
use Rattle.std.specs.Ordering.{nat_cmp}
use Rattle.std.specs.BTreeMap.{get}
use Rattle.recording_resumption.specs.Resumption.{resumed_by}
use Rattle.recording_peer.specs.Peers.{Resumed, resumed_of}
use Rattle.recording_peer.specs.Recording.{taken_in}
use Rattle.recording_peer.proofs.Leaving.{left_as_kept, resumed_now}
use Rattle.recording_peer.proofs.Taking.{inside_of}
use Rattle.recording_peer.proofs.peer_recorder.PeerRecorder.due_left.Goals as goal

pub returns-in-Some : goal.returns-in-Some
returns-in-Some c = λ first after filed p.
    let h = c.args.header.now in
    let now = inside_of c.self.view_is p in
    let found : resumed_by (get nat_cmp c.self.inside.earlier h.domain) h ≡ Some c.in-Some.domain.now = search rules in
    let is = resumed_now c.self.inside.earlier filed h (left_as_kept c.self.inside.earlier filed.earlier (taken_in filed) now.left) in
    c.due.ensures ∙ ap (λ (r : Resumed). r.due) (sym (ap resumed_of found) ∙ is)

pub returns-in-None : goal.returns-in-None
returns-in-None c = λ first after filed p.
    let h = c.args.header.now in
    let now = inside_of c.self.view_is p in
    let found : resumed_by (get nat_cmp c.self.inside.earlier h.domain) h ≡ None = search rules in
    let is = resumed_now c.self.inside.earlier filed h (left_as_kept c.self.inside.earlier filed.earlier (taken_in filed) now.left) in
    ap (λ (r : Resumed). r.due) (sym (ap resumed_of found) ∙ is)

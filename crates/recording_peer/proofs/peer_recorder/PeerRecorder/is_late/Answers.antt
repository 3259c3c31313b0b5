use Rattle.std.proofs.Common.{◌≡◌, sym, ap, ◌∙◌}
use Rattle.std.specs.Prelude.{nat_lt}
use Rattle.recording_peer.specs.Recording.{PeerView, taken_in}
use Rattle.recording_peer.proofs.Lateness.{late_is, late_off, off_is, on_is}
use Rattle.recording_peer.proofs.Taking.{inside_of}
use Rattle.recording_peer.proofs.peer_recorder.PeerRecorder.is_late.Goals as goal

pub returns-then-self-gt0 : goal.returns-then-self-gt0
returns-then-self-gt0 c = λ first after filed p.
    let s = c.args.self.now in
    let h = c.args.header.now in
    let now = inside_of c.self.view_is p in
    let same : c.self.inside.known.reorder ≡ s.known.reorder = ap (λ (v : PeerView). v.known.reorder) c.self.view_is in
    late_is s.known.reorder (taken_in filed) h c.self.inside.advances.reaches c.is_before.result (sym (ap (nat_lt 0) same) ∙ on_is c.self.inside.known.reorder c.if-self-gt0.true) now.counted.noted c.is_before.ensures

pub returns-else-self-gt0 : goal.returns-else-self-gt0
returns-else-self-gt0 c = λ first after filed p.
    let s = c.args.self.now in
    let same : c.self.inside.known.reorder ≡ s.known.reorder = ap (λ (v : PeerView). v.known.reorder) c.self.view_is in
    late_off s.known.reorder (taken_in filed) c.args.header.now (sym (ap (nat_lt 0) same) ∙ off_is c.self.inside.known.reorder c.if-self-gt0.false)

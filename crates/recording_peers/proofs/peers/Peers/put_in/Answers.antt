use Rattle.std.proofs.Common.{◌≡◌, ◌<◌, ℕ, List, not, take, length, Some, None, sym, ap, subst, refl, ◌∙◌, rules}
use Rattle.std.specs.NonZero.{non_zero_usize_get}
use Rattle.lru.specs.LruCache.{LruCache}
use Rattle.std.specs.declared.net.socket_addr.SocketAddr.{SocketAddr}
use Rattle.recording_peer.specs.Places.{has_record, has_template}
use Rattle.recording_peers.specs.declared.peer_state.PeerState.{PeerState}
use Rattle.std.proofs.lemmas.List.{take_all}
use Rattle.recording_peers.specs.Table.{of_peer}
use Rattle.recording_peers.proofs.Evicting.{GoesBehind, IsWide, first_new, goes_behind, going, has_gone, in_err, in_ok, is_wide, none_goes}
use Rattle.recording_peers.proofs.peers.Peers.put_in.Goals as goal

pub put_first-requires-clause-room : goal.put_first-requires-clause-room
put_first-requires-clause-room g c =
    let kept = c.args.self.now.kept in
    let none : None ≡ c.goes.result = search rules in
    (none_goes (λ k. not (has_template k.recorder)) (λ k. not (has_record k.recorder)) kept.cap kept.entries c.goes.ensures.valid.2 (none ∙ c.goes.ensures.goes)).room

pub put_for-gone-requires-clause-room : goal.put_for-gone-requires-clause-room
put_for-gone-requires-clause-room g c =
    let kept = c.args.self.now.kept in
    let some : Some c.in-Some.goes ≡ c.goes.result = search rules in
    let way = going (λ k. not (has_template k.recorder)) (λ k. not (has_record k.recorder)) kept.cap kept.entries c.in-Some.goes (some ∙ c.goes.ensures.goes) in
    let n = non_zero_usize_get c.saturating_add.result in
    let wide : IsWide kept.entries n = is_wide kept.entries kept.cap n (non_zero_usize_get c.cap-room.result) c.saturating_add.ensures c.cap-room.ensures c.goes.ensures.valid.1 way.full c.goes.ensures.fits in
    subst (λ (k : LruCache SocketAddr (PeerState g.row.F.Denot)). length k.entries < k.cap) (sym c.resize.ensures) (subst (λ (es : List (SocketAddr × PeerState g.row.F.Denot)). length es < n) (sym wide.same) wide.room)

pub put_for-gone-requires-clause-new : goal.put_for-gone-requires-clause-new
put_for-gone-requires-clause-new g c =
    let kept = c.args.self.now.kept in
    let some : Some c.in-Some.goes ≡ c.goes.result = search rules in
    let way = going (λ k. not (has_template k.recorder)) (λ k. not (has_record k.recorder)) kept.cap kept.entries c.in-Some.goes (some ∙ c.goes.ensures.goes) in
    let n = non_zero_usize_get c.saturating_add.result in
    let wide : IsWide kept.entries n = is_wide kept.entries kept.cap n (non_zero_usize_get c.cap-room.result) c.saturating_add.ensures c.cap-room.ensures c.goes.ensures.valid.1 way.full c.goes.ensures.fits in
    ap (λ (k : LruCache SocketAddr (PeerState g.row.F.Denot)). of_peer c.args.peer k.entries) c.resize.ensures ∙ ap (of_peer c.args.peer) wide.same ∙ c.requires

pub returns-in_default-clause-gone : goal.returns-in_default-clause-gone
returns-in_default-clause-gone g c =
    let kept = c.args.self.now.kept in
    let none : None ≡ c.goes.result = search rules in
    record {
      went = sym (none_goes (λ k. not (has_template k.recorder)) (λ k. not (has_record k.recorder)) kept.cap kept.entries c.goes.ensures.valid.2 (none ∙ c.goes.ensures.goes)).is;
      was_kept = refl;
      others = c.in_ok-put_first.ensures.first ∙ sym (first_new None c.args.peer c.args.session kept.entries c.requires);
    }

pub returns-clause-gone : goal.returns-clause-gone
returns-clause-gone g c =
    let kept = c.args.self.now.kept in
    let some : Some c.in-Some.goes ≡ c.goes.result = search rules in
    let way = going (λ k. not (has_template k.recorder)) (λ k. not (has_record k.recorder)) kept.cap kept.entries c.in-Some.goes (some ∙ c.goes.ensures.goes) in
    let n = non_zero_usize_get c.saturating_add.result in
    let wide : IsWide kept.entries n = is_wide kept.entries kept.cap n (non_zero_usize_get c.cap-room.result) c.saturating_add.ensures c.cap-room.ensures c.goes.ensures.valid.1 way.full c.goes.ensures.fits in
    let behind : GoesBehind kept.entries kept.cap c.args.peer c.args.session way.entry = goes_behind kept.entries kept.cap c.args.peer c.args.session way.entry c.goes.ensures.valid.0 c.requires way.among c.goes.ensures.valid.1 in
    let before : c.resize.new.self.entries ≡ kept.entries = ap (λ (k : LruCache SocketAddr (PeerState g.row.F.Denot)). k.entries) c.resize.ensures ∙ wide.same in
    in_ok c.put_for-gone.result _ _ c.put_for-gone.ensures.gone (λ gone done.
    let h = has_gone kept.entries c.resize.new.self.entries c.put_for-gone.new.self.kept.entries c.resize-2.new.self.entries kept.cap (non_zero_usize_get c.cap-room.result) c.args.peer c.in-Some.goes c.args.session way.entry gone
    behind c.requires way.at before c.cap-room.ensures done.0 done.1 (ap (λ (k : LruCache SocketAddr (PeerState g.row.F.Denot)). k.entries) c.resize-2.ensures) in
    record { went = h.is ∙ sym way.is; was_kept = h.was_kept; others = h.others })

pub returns-clause-none : goal.returns-clause-none
returns-clause-none g c =
    let kept = c.args.self.now.kept in
    let some : Some c.in-Some.goes ≡ c.goes.result = search rules in
    let way = going (λ k. not (has_template k.recorder)) (λ k. not (has_record k.recorder)) kept.cap kept.entries c.in-Some.goes (some ∙ c.goes.ensures.goes) in
    let n = non_zero_usize_get c.saturating_add.result in
    let wide : IsWide kept.entries n = is_wide kept.entries kept.cap n (non_zero_usize_get c.cap-room.result) c.saturating_add.ensures c.cap-room.ensures c.goes.ensures.valid.1 way.full c.goes.ensures.fits in
    let before : c.resize.new.self.entries ≡ kept.entries = ap (λ (k : LruCache SocketAddr (PeerState g.row.F.Denot)). k.entries) c.resize.ensures ∙ wide.same in
    in_err c.put_for-gone.result _ _ c.put_for-gone.ensures.none (λ same.
    ap (λ (k : LruCache SocketAddr (PeerState g.row.F.Denot)). k.entries) c.resize-2.ensures ∙ ap (λ (m : ℕ). take m c.put_for-gone.new.self.kept.entries) c.cap-room.ensures ∙ ap (take kept.cap) (same ∙ before) ∙ take_all kept.cap kept.entries c.goes.ensures.valid.1)

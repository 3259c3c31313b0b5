use Rattle.std.proofs.Common.{◌≡◌, List, ℕ, Bool, cond, Some, sym, ap, ap₂, ◌∙◌}
use Rattle.std.specs.Prelude.{bytes_eq}
use Rattle.std.specs.String.{string_bytes}
use Rattle.std.proofs.lemmas.Map.Text.{btree_map_updates_text}
use Rattle.recording_folder.specs.EarlierPeers.{is_later, kept_of, peer_of}
use Rattle.recording_folder.specs.PeerFiles.{Note, rank}
use Rattle.recording_folder.specs.declared.earlier_peers.EarlierPeer.{EarlierPeer}
use Rattle.recording_folder.specs.declared.earlier_peers.EarlierPeers.{EarlierPeers}
use Rattle.recording_folder.proofs.PeerFiles.{noted_later, noted_no_later}
use Rattle.recording_folder.proofs.earlier_peers.EarlierPeers.note.Goals as goal

-- what was asked, by the file
asked : (e : EarlierPeers) (peer peer' r r' : List ℕ) (b : Bool) → peer ≡ peer' → r ≡ r' → b ≡ is_later (kept_of e peer) r → is_later (kept_of e peer') r' ≡ b
asked e peer peer' r r' b same_peer same_rank is = sym (is ∙ ap₂ (λ (p s : List ℕ). is_later (kept_of e p) s) same_peer same_rank)

pub returns-then-not-is_later_than_kept-clause-noted : goal.returns-then-not-is_later_than_kept-clause-noted
returns-then-not-is_later_than_kept-clause-noted c = λ notes h.
    let f : Note = record { file = c.args.file.now; session = c.args.session.now } in
    let peer : c.as_str.result.now ≡ peer_of c.args.file.now = c.as_str.ensures.value ∙ c.in_ok-peer.ensures in
    noted_no_later c.args.self.now notes f h
    (asked c.args.self.now c.as_str.result.now (peer_of c.args.file.now) c.rank-rank.result (rank c.args.file.now) c.is_later_than_kept.result peer c.rank-rank.ensures c.is_later_than_kept.ensures ∙ c.if-not-is_later_than_kept.true)

pub returns-clause-noted : goal.returns-clause-noted
returns-clause-noted c = λ notes h.
    let f : Note = record { file = c.args.file.now; session = c.args.session.now } in
    let p : EarlierPeer = record { rank = c.rank-rank.result; domains = c.in_ok-domains.domains } in
    let e = c.args.self.now in
    let new : EarlierPeers = record { peers = c.insert.new.self } in
    let peer : c.as_str.result.now ≡ peer_of c.args.file.now = c.as_str.ensures.value ∙ c.in_ok-peer.ensures in
    let later = asked e c.as_str.result.now (peer_of c.args.file.now) c.rank-rank.result (rank c.args.file.now) c.is_later_than_kept.result peer c.rank-rank.ensures c.is_later_than_kept.ensures ∙ c.if-not-is_later_than_kept.false in
    let put : (q : List ℕ) → kept_of new q ≡ cond (bytes_eq (peer_of f.file) q) (Some p) (kept_of e q) =
    λ q. btree_map_updates_text (string_bytes c.in_ok-peer.peer) e.peers c.insert.new.self (Some p) c.in_ok-insert.ensures.updates q ∙ ap (λ (b : List ℕ). cond (bytes_eq b q) (Some p) (kept_of e q)) c.in_ok-peer.ensures in
    noted_later e new notes f p h later c.rank-rank.ensures (record { none = c.in_ok-domains.ensures.none; only = c.in_ok-domains.ensures.only; each = c.in_ok-domains.ensures.each }) put

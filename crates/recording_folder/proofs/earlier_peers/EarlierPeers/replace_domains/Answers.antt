use Rattle.std.proofs.Common.{rules, ◌≡◌, List, ℕ, Some, ap}
use Rattle.std.proofs.lemmas.Map.Text.{btree_map_updates_text}
use Rattle.recording_resumption.specs.declared.earlier_domain.EarlierDomain.{EarlierDomain}
use Rattle.std.specs.BTreeMap.{BTreeMap}
use Rattle.recording_folder.specs.EarlierPeers.{kept_of}
use Rattle.recording_folder.specs.declared.earlier_peers.EarlierPeer.{EarlierPeer}
use Rattle.recording_folder.specs.declared.earlier_peers.EarlierPeers.{EarlierPeers}
use Rattle.recording_folder.proofs.PeerFiles.{keeps_of}
use Rattle.recording_folder.proofs.earlier_peers.EarlierPeers.replace_domains.Goals as goal

pub returns-in-Some-clause-kept : goal.returns-in-Some-clause-kept
returns-in-Some-clause-kept c =
    let p = c.in-Some.kept.now in
    let w : EarlierPeer = record { rank = p.rank; domains = c.replace.new.dest } in
    let new : EarlierPeers = record { peers = c.get_mut.follows.lender w } in
    let found : kept_of c.args.self.now c.args.peer.now ≡ Some p = search rules in
    let put : (q : List ℕ) → kept_of new q ≡ _ =
    λ q. btree_map_updates_text c.args.peer.now c.args.self.now.peers (c.get_mut.follows.lender w) (Some w) ((c.get_mut.follows.holds w).3 (search rules)) q in
    keeps_of c.args.self.now new c.args.peer.now p w c.args.domains found (ap (λ (left : BTreeMap ℕ EarlierDomain). Some (record p { domains = left })) c.replace.ensures.after) put

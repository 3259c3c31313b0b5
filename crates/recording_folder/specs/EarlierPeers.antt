-- What an earlier run left of its peers, by the files that were noted.
use Rattle.std.specs.Prelude.{◌≡◌, ℕ, Bool, true, bytes_eq, decimal, if◌then◌else◌, List, Option, Some, None}
use Rattle.std.specs.Ordering.{nat_cmp, is_lt}
use Rattle.std.specs.Net.Socket.{socket_ip, socket_port}
use Rattle.std.specs.declared.net.socket_addr.SocketAddr.{SocketAddr}
use Rattle.std.specs.BTreeMap.{BTreeMap, get, get_by_text}
use Rattle.std.specs.Cmp.Lexicographic.{slice_cmp}
use Rattle.ipfix_message.specs.Domains.{DomainsView}
use Rattle.recording_names.specs.SessionNames.{address_name, hyphened}
use Rattle.recording_resumption.specs.EarlierFiles.{LeavesEach, LeavesNone, LeftBy}
use Rattle.recording_resumption.specs.declared.earlier_domain.EarlierDomain.{EarlierDomain}
use Rattle.recording_resumption.specs.declared.earlier_session.EarlierSession.{EarlierSession}
use Rattle.recording_folder.specs.PeerFiles.{Note, IsLastOf, rank}
use Rattle.recording_folder.specs.declared.peer_files.NamedFile.{NamedFile}
use Rattle.recording_folder.specs.declared.earlier_peers.EarlierPeer.{EarlierPeer}
use Rattle.recording_folder.specs.declared.earlier_peers.EarlierPeers.{EarlierPeers}

-- how the peer of a file is named: its address and its port
abbrev pub peer_of : NamedFile → List ℕ
peer_of f = hyphened f.session.address.now (decimal f.session.port)

-- a file of this peer
abbrev pub is_of : List ℕ → Note → Bool
is_of peer n = bytes_eq (peer_of n.file) peer

-- what a file left, by what it has: of each domain with a message in it its templates, if no message has a fault
pub record IsLeftBy (s : EarlierSession) (left : BTreeMap ℕ EarlierDomain) : Type 0 where
  pub none : s.full.domains ≡ None → LeavesNone left
  pub only : (d : DomainsView) → s.full.domains ≡ Some d → LeftBy s.last d left
  pub each : (d : DomainsView) → s.full.domains ≡ Some d → LeavesEach s.last left

-- what is kept of a peer
abbrev pub kept_of : EarlierPeers → List ℕ → Option EarlierPeer
kept_of e peer = get_by_text e.peers peer

-- as late a file is later than what is kept
abbrev pub is_later : Option EarlierPeer → List ℕ → Bool
is_later None r = true
is_later (Some p) r = is_lt (slice_cmp nat_cmp p.rank r)

-- whether a file is later than what is kept of its peer
abbrev pub comes_later : EarlierPeers → NamedFile → Bool
comes_later e f = is_later (kept_of e (peer_of f)) (rank f)

-- of a peer's last file that is kept which it left; of a peer of which none was noted nothing is
abbrev pub IsKeptBy : Option Note → Option EarlierPeer → Type 0
IsKeptBy None None = Unit {0}
IsKeptBy None (Some p) = ⊥
IsKeptBy (Some n) None = ⊥
IsKeptBy (Some n) (Some p) = (p.rank ≡ rank n.file) × IsLeftBy n.session p.domains

-- these files were noted: of each peer that is kept which the last one of its own left
pub record HasNoted (e : EarlierPeers) (notes : List Note) : Type 0 where
  pub last : List ℕ → Option Note
  pub is_last : (peer : List ℕ) → IsLastOf (is_of peer) notes (last peer)
  pub kept : (peer : List ℕ) → IsKeptBy (last peer) (kept_of e peer)

-- what the last of a peer's files left, or nothing, if it has none
abbrev pub IsLeftByLast : Option Note → BTreeMap ℕ EarlierDomain → Type 0
IsLeftByLast None left = (domain : ℕ) → get nat_cmp left domain ≡ None
IsLeftByLast (Some n) left = IsLeftBy n.session left

-- of these files
pub record IsHandedOver (notes : List Note) (peer : List ℕ) (left : BTreeMap ℕ EarlierDomain) : Type 0 where
  pub last : Option Note
  pub is_last : IsLastOf (is_of peer) notes last
  pub is_left : IsLeftByLast last left

-- how a peer is named in what is kept
abbrev pub name_of : SocketAddr → List ℕ
name_of peer = hyphened (address_name (socket_ip peer)) (decimal (socket_port peer))

-- what is kept, with these domains in place of its own
abbrev pub with_domains : BTreeMap ℕ EarlierDomain → Option EarlierPeer → Option EarlierPeer
with_domains left None = None
with_domains left (Some p) = Some (record p { domains = left })

-- then these domains are kept of a peer of which something was kept; of others nothing changes
abbrev pub KeepsOf : EarlierPeers → List ℕ → BTreeMap ℕ EarlierDomain → EarlierPeers → Type 0
KeepsOf before peer left after = (q : List ℕ) → kept_of after q ≡ (if bytes_eq peer q then with_domains left (kept_of before q) else kept_of before q)

-- then no domain is kept of a peer
pub record IsGone (before : EarlierPeers) (peer : List ℕ) (after : EarlierPeers) : Type 0 where
  pub left : BTreeMap ℕ EarlierDomain
  pub none : (domain : ℕ) → get nat_cmp left domain ≡ None
  pub kept : KeepsOf before peer left after

-- Which peers may send.
use Rattle.std.specs.Prelude.{◌≡◌, ◌⊎◌, [], Any}
use Rattle.std.specs.declared.net.ip_addr.IpAddr.{IpAddr}
use Rattle.network_prefixes.specs.declared.peer_filter.PeerFilter.{PeerFilter}
use Rattle.network_prefixes.specs.Prefixes.{Covers}

-- there is no prefix, or one covers the peer's address
abbrev pub LetsIn : PeerFilter → IpAddr → Type 0
LetsIn filter peer = (filter.prefixes.items ≡ []) ⊎ Any (λ prefix. Covers prefix peer) filter.prefixes.items

-- The address of a peer as it is told: IPv4 where it is mapped into IPv6 (RFC 4291, section 2.5.5.2).
use Rattle.std.specs.Prelude.{◌≡◌}
use Rattle.std.specs.Net.Addr.{ipv4_octets, ipv6_segments, low_octets, IsIpv4Mapped}
use Rattle.std.specs.Net.Socket.{socket_ip, socket_port, v6_ip, v6_port}
use Rattle.std.specs.declared.net.ipv4_addr.Ipv4Addr.{Ipv4Addr}
use Rattle.std.specs.declared.net.ip_addr.IpAddr.TheVariants as ip_addr
use Rattle.std.specs.declared.net.socket_addr.SocketAddrV6.{SocketAddrV6}
use Rattle.std.specs.declared.net.socket_addr.SocketAddr.{SocketAddr}
use Rattle.std.specs.declared.net.socket_addr.SocketAddr.TheVariants.{V4, V6}

-- the IPv4 address in this one, and its port
pub record IsAddressWithin (a : SocketAddrV6) (peer : SocketAddr) : Type 0 where
  pub ip : Ipv4Addr
  pub is : socket_ip peer ≡ ip_addr.V4 ip
  pub octets : ipv4_octets ip ≡ low_octets (v6_ip a)
  pub port : socket_port peer ≡ v6_port a

-- that one if there is one, and else the address as it is
pub record IsPlainAddress (a : SocketAddrV6) (peer : SocketAddr) : Type 0 where
  pub mapped : IsIpv4Mapped (ipv6_segments (v6_ip a)) → IsAddressWithin a peer
  pub other : ¬ IsIpv4Mapped (ipv6_segments (v6_ip a)) → peer ≡ V6 a

abbrev pub IsPeerAddress : SocketAddr → SocketAddr → Type 0
IsPeerAddress (V4 a) peer = peer ≡ V4 a
IsPeerAddress (V6 a) peer = IsPlainAddress a peer

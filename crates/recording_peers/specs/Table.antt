-- Tables of peers, which have room for some of them (RFC 7011, section 10.3): in the order of their last datagrams, the latest
-- first.
use Rattle.std.specs.Prelude.{◌≡◌, ◌-◌, Bool, not, List, [], ◌∷◌, filter, length, take, Option, Some, None, is_some, unwrap_or, if◌then◌else◌}
use Rattle.std.specs.Map.{lookup, lookup_entry, lookup_key, remove_entry}
use Rattle.std.specs.Option.{option_or}
use Rattle.std.specs.declared.net.socket_addr.SocketAddr.{SocketAddr}
use Rattle.std.specs.contracts.net.socket_addr.SocketAddrPartialEq.TheImpl as addresses

-- whether an address and its port are a peer's
abbrev pub same_peer : SocketAddr → SocketAddr → Bool
same_peer = addresses.eq-value.it

abbrev pub of_peer : {X : Type 0} → SocketAddr → List (SocketAddr × X) → Option X
of_peer peer es = lookup (same_peer peer) es

-- a peer that goes, if one does, by its address: what is kept of it, and the others
abbrev pub entry_of : {X : Type 0} → Option SocketAddr → List (SocketAddr × X) → Option (SocketAddr × X)
entry_of None es = None
entry_of (Some gone) es = lookup_entry (same_peer gone) es

abbrev pub without : {X : Type 0} → Option SocketAddr → List (SocketAddr × X) → List (SocketAddr × X)
without None es = es
without (Some gone) es = filter (λ e. not (same_peer gone e.0)) es

abbrev pub address_of : {X : Type 0} → Option (SocketAddr × X) → Option SocketAddr
address_of None = None
address_of (Some e) = Some e.0

-- the others, beside a peer that is first; where it is a new one, this one goes
abbrev pub others_for : {X : Type 0} → Option SocketAddr → SocketAddr → List (SocketAddr × X) → List (SocketAddr × X)
others_for gone peer es = if is_some (of_peer peer es) then remove_entry (same_peer peer) es else without gone es

-- a peer is first, with this, under the address that it was kept under
abbrev pub with_first : {X : Type 0} → Option SocketAddr → SocketAddr → X → List (SocketAddr × X) → List (SocketAddr × X)
with_first gone peer x es = (unwrap_or (lookup_key (same_peer peer) es) peer, x) ∷ others_for gone peer es

-- the last one of those of which this holds
abbrev pub last_of : {X : Type 0} → (X → Bool) → List (SocketAddr × X) → Option (SocketAddr × X)
last_of holds [] = None
last_of holds (e ∷ es) = option_or (last_of holds es) (if holds e.1 then Some e else None)

-- the others than the last one, which was silent for longest
abbrev pub without_last : {X : Type 0} → List (SocketAddr × X) → List (SocketAddr × X)
without_last es = take (length es - 1) es

-- ---- two tables of the same peers in the same order, whose values are related

module _ {K V W : Type 0} (R : V → W → Type 0) where
  abbrev pub Beside : K × V → K × W → Type 0
  Beside e c = (e.0 ≡ c.0) × R e.1 c.1

  abbrev pub Paired : List (K × V) → List (K × W) → Type 0
  Paired [] [] = Unit {0}
  Paired [] (c ∷ cs) = ⊥
  Paired (e ∷ es) [] = ⊥
  Paired (e ∷ es) (c ∷ cs) = Beside e c × Paired es cs

-- both are there, and are related, or none is
abbrev pub Both : {X Y : Type 0} → (X → Y → Type 0) → Option X → Option Y → Type 0
Both Q None None = Unit {0}
Both Q None (Some y) = ⊥
Both Q (Some x) None = ⊥
Both Q (Some x) (Some y) = Q x y

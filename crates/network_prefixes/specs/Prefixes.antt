-- Prefixes: the word that spells one, and the addresses that it covers.
use Rattle.std.specs.Prelude.{◌≡◌, ℕ, ◌≤◌, Bool, ◌==◌, MatchBool, List, decimal}
use Rattle.std.specs.List.{list_any, before_first, after_first}
use Rattle.std.specs.Net.Grammar.{IsIpText}
use Rattle.std.specs.declared.net.ip_addr.IpAddr.{IpAddr}
use Rattle.network_prefixes.specs.declared.address_bits.AddressBits.{AddressBits}
use Rattle.network_prefixes.specs.declared.prefix.Prefix.{Prefix}
use Rattle.network_prefixes.specs.Addresses.{address_bits, EndsBehind, first_bits}

abbrev pub is_slash : ℕ → Bool
is_slash octet = octet == 47

-- a text spells an address that has these bits
pub record IsAddressText (text : List ℕ) (bits : AddressBits) : Type 0 where
  pub address : IpAddr
  pub spelled : IsIpText text address
  pub has : bits ≡ address_bits address

-- an address without a slash is all of its bits
pub record IsWholeAddress (text : List ℕ) (p : Prefix) : Type 0 where
  pub address : IsAddressText text p.address
  pub all : p.length ≡ p.address.width

-- an address and a decimal number of bits, after which all bits are 0
pub record IsPrefixSpelled (text bits : List ℕ) (p : Prefix) : Type 0 where
  pub address : IsAddressText text p.address
  pub length : bits ≡ decimal p.length
  pub within : p.length ≤ p.address.width
  pub zeros : EndsBehind p.address p.length

-- ADDRESS, or ADDRESS/BITS
abbrev pub IsPrefixWord : List ℕ → Prefix → Type 0
IsPrefixWord word p = MatchBool (list_any is_slash word) (IsPrefixSpelled (before_first is_slash word) (after_first is_slash word) p) (IsWholeAddress word p)

-- ---- a word that would be a prefix if all bits after the first ones were 0

pub record HasBitsAfter (text bits : List ℕ) : Type 0 where
  pub address : AddressBits
  pub length : ℕ
  pub spelled : IsAddressText text address
  pub number : bits ≡ decimal length
  pub within : length ≤ address.width
  pub others : ¬ EndsBehind address length

abbrev pub IsWordWithBitsAfter : List ℕ → Type 0
IsWordWithBitsAfter word = MatchBool (list_any is_slash word) (HasBitsAfter (before_first is_slash word) (after_first is_slash word)) ⊥

-- ---- what a prefix covers

-- the addresses of its width that begin with its first bits
pub record Covers (p : Prefix) (address : IpAddr) : Type 0 where
  pub width : (address_bits address).width ≡ p.address.width
  pub bits : first_bits (address_bits address) p.length ≡ first_bits p.address p.length

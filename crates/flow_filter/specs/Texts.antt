-- What a text of a condition says.
use Rattle.std.specs.Prelude.{◌≡◌, ℕ, ◌^◌, ◌==◌, ◌&&◌, nat_le, nat_lt, Bool, List, Option, Some, None, option_map, option_and_then, MatchOption, if◌then◌else◌, decimal}
use Rattle.std.specs.List.{list_any, before_first, after_first}
use Rattle.std.specs.Str.{bytes_eq}
use Rattle.std.specs.Str.Parse.{digits_value}
use Rattle.ipfix_elements.specs.declared.kind.Kind.{Kind}
use Rattle.ipfix_elements.specs.declared.kind.Kind.TheVariants as kinds
use Rattle.network_prefixes.specs.Prefixes.{IsPrefixWord}
use Rattle.flow_filter.specs.declared.value_range.ValueRange.{ValueRange}
use Rattle.flow_filter.specs.declared.value_range.ValueRange.TheVariants.{Numbers, Network}

-- ---- numbers

-- a decimal number below 2^64, without a sign or leading zeros
abbrev pub number_in : List ℕ → Option ℕ
number_in text = let n = digits_value 10 text in if bytes_eq text (decimal n) && nat_lt n (2 ^ 64) then Some n else None

abbrev pub is_dash : ℕ → Bool
is_dash octet = octet == 45

-- from the first to the last, which is not below it
abbrev pub range_of : ℕ → ℕ → Option ValueRange
range_of first last = if nat_le first last then Some (Numbers first last) else None

-- N, or M-N
abbrev pub numbers_in : List ℕ → Option ValueRange
numbers_in text =
    if list_any is_dash text
    then option_and_then (λ first. option_and_then (range_of first) (number_in (after_first is_dash text))) (number_in (before_first is_dash text))
    else option_map (λ n. Numbers n n) (number_in text)

-- ---- addresses

-- an address, or a network without bits after its prefix
abbrev pub IsNetwork : List ℕ → ValueRange → Type 0
IsNetwork text (Network prefix) = IsPrefixWord text prefix
IsNetwork text (Numbers first last) = ⊥

-- the same of IPv4 alone
abbrev pub IsIpv4Network : List ℕ → ValueRange → Type 0
IsIpv4Network text (Network prefix) = IsPrefixWord text prefix × (prefix.address.width ≡ 32)
IsIpv4Network text (Numbers first last) = ⊥

-- ---- each kind

-- what a text says at an element of a kind; an element of IPv6 addresses may have mapped ones, and takes both families
abbrev pub IsText : Kind → List ℕ → ValueRange → Type 0
IsText (kinds.Unsigned width) text range = numbers_in text ≡ Some range
IsText kinds.Ipv4 text range = IsIpv4Network text range
IsText kinds.Ipv6 text range = IsNetwork text range
IsText kind text range = ⊥

-- a text says nothing at an element of the kind
abbrev pub IsNoText : Kind → List ℕ → Type 0
IsNoText kind text = (range : ValueRange) → ¬ (IsText kind text range)

-- what a text says, and None only if it says nothing
abbrev pub Reads : (ValueRange → Type 0) → Option ValueRange → Type 0
Reads Says result = MatchOption result ((range : ValueRange) → ¬ (Says range)) Says

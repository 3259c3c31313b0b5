-- Addresses and lengths in words.
use Rattle.std.proofs.Common.{◌≡◌, ℕ, ◌<◌, ◌≤◌, Bool, true, false, if◌then◌else◌, List, length, get_or, Option, Some, None, Result, Ok, Err, subst, sym, ap, ◌∙◌, arith}
use Rattle.std.specs.Fmt.{decimal}
use Rattle.std.specs.Prelude.{◌≢◌}
use denote.Bor.{Bor}
use Rattle.std.specs.List.{list_any, before_first, after_first}
use Rattle.std.specs.Bool.{MatchBool}
use Rattle.std.specs.Net.Grammar.{Parses}
use Rattle.std.specs.Option.{MatchOption}
use Rattle.std.specs.Result.{is_ok, result_unwrap_or}
use Rattle.std.specs.Str.Parse.{ParsesUnsigned}
use Rattle.std.specs.Net.Addr.{ipv4_bits, ipv4_octets, ipv6_segments, low_octets, IsIpv4Mapped}
use Rattle.std.specs.declared.net.ipv4_addr.Ipv4Addr.{Ipv4Addr}
use Rattle.std.specs.declared.net.ipv6_addr.Ipv6Addr.{Ipv6Addr}
use Rattle.std.specs.declared.net.ip_addr.IpAddr.{IpAddr}
use Rattle.std.specs.declared.net.ip_addr.IpAddr.TheVariants.{V4, V6}
use Rattle.std.specs.Int.{w32, from_be_bytes}
use Rattle.std.proofs.lemmas.Bool.{cond-true, false≢true, ne_eqb}
use Rattle.std.proofs.lemmas.Fmt.{decimal_injective, parse-decimal}
use Rattle.std.proofs.lemmas.List.Folds.{list_any_none}
use Rattle.std.proofs.lemmas.List.Elements.{All-from_get_or}
use Rattle.std.proofs.lemmas.Option.{none-some}
use Rattle.std.proofs.NetLemmas.Theorems.{IsIpText_unique}
use Rattle.std.proofs.lemmas.Slice.Eq.{bytes_eq-Decides}
use Rattle.network_prefixes.specs.declared.address_bits.AddressBits.{AddressBits}
use Rattle.network_prefixes.specs.declared.prefix.Prefix.{Prefix}
use Rattle.network_prefixes.specs.Addresses.{address_bits, bits_of_width, EndsBehind, is_mapped}
use Rattle.network_prefixes.specs.Prefixes.{is_slash, HasBitsAfter, IsAddressText, IsPrefixSpelled, IsPrefixWord, IsWholeAddress, IsWordWithBitsAfter}

-- what is written for a number is parsed
pub parsed : {E : Type 0} (n : ℕ) (text : List ℕ) (r : Result ℕ E) → n < 256 → text ≡ decimal n → ParsesUnsigned 8 10 text r → r ≡ Ok n
parsed n text r small is parses = parse-decimal 8 n text r small (omega (arith, small)) is parses

-- a mapped address has the bits of the one in it
octets_are : (ip : Ipv4Addr) (octets : List ℕ) → ipv4_octets ip ≡ octets → ipv4_bits ip ≡ from_be_bytes w32 octets
unfolding ipv4_bits
octets_are ip octets same = ap (from_be_bytes w32) same

pub mapped_bits : (a : Ipv6Addr) (ip : Ipv4Addr) (n : ℕ) → IsIpv4Mapped (ipv6_segments a) → ipv4_octets ip ≡ low_octets a → n ≡ ipv4_bits ip → bits_of_width 32 n ≡ address_bits (V6 a)
mapped_bits a ip n is same bits =
    ap (bits_of_width 32) (bits ∙ octets_are ip _ same)
    ∙ sym (cond-true _ _ _ ((bytes_eq-Decides _ _).1 is))

-- a result has one value
pub same_Ok : {T E : Type 0} (r : Result T E) (x y : T) → r ≡ Ok x → r ≡ Ok y → x ≡ y
same_Ok r x y is same = ap (λ r. result_unwrap_or r x) (sym is ∙ same)

pub no_Ok : {T E : Type 0} (r : Result T E) (e : E) (y : T) → r ≡ Err e → r ≡ Ok y → ⊥
no_Ok r e y is same = false≢true (ap is_ok (sym is ∙ same))

-- ---- the address and the length of a prefix

either_width : (b : Bool) (x y : AddressBits) → x.width ≤ 128 → y.width ≤ 128 → (if b then x else y).width ≤ 128
either_width true x y h k = h
either_width false x y h k = k

width_within : (ip : IpAddr) → (address_bits ip).width ≤ 128
width_within (V4 a) = omega arith
width_within (V6 a) = either_width (is_mapped a) _ _ (omega arith) (omega arith)

-- a text spells one address
same_address : (text : List ℕ) (a b : AddressBits) → IsAddressText text a → IsAddressText text b → a ≡ b
same_address text a b h k = h.has ∙ ap address_bits (IsIpText_unique text h.address k.address h.spelled k.spelled) ∙ sym k.has

length_small : (text bits : List ℕ) (p : Prefix) → IsPrefixSpelled text bits p → p.length < 256
length_small text bits p h =
    let within = subst (λ (a : AddressBits). a.width ≤ 128) (sym h.address.has) (width_within h.address.address) in
    omega (arith, within, h.within)

-- two texts that spell a prefix spell no number that is too large
pub length_read : (text bits : List ℕ) (p : Prefix) → ((n : ℕ) → n < 256 → bits ≢ decimal n) → IsPrefixSpelled text bits p → ⊥
length_read text bits p none h = none p.length (length_small text bits p h) h.length

-- and they spell one alone
pub only_one : (text bits : List ℕ) (a : AddressBits) (n : ℕ) (p : Prefix) → IsAddressText text a → bits ≡ decimal n → n < 256 → IsPrefixSpelled text bits p → (n ≤ a.width) × EndsBehind a n
only_one text bits a n p address is small h =
    let shorter = length_small text bits p h in
    let same_n = decimal_injective p.length n (omega (arith, shorter)) (omega (arith, small)) (sym h.length ∙ is) in
    subst (λ (b : AddressBits). (n ≤ b.width) × EndsBehind b n) (same_address text p.address a h.address address)
    (subst (λ (m : ℕ). (m ≤ p.address.width) × EndsBehind p.address m) same_n (h.within, h.zeros))

-- the same of a text with other bits than 0 after the first ones
number_small : (text bits : List ℕ) (h : HasBitsAfter text bits) → h.length < 256
number_small text bits h =
    let within = subst (λ (a : AddressBits). a.width ≤ 128) (sym h.spelled.has) (width_within h.spelled.address) in
    omega (arith, within, h.within)

pub number_read : (text bits : List ℕ) → ((n : ℕ) → n < 256 → bits ≢ decimal n) → HasBitsAfter text bits → ⊥
number_read text bits none h = none h.length (number_small text bits h) h.number

pub same_bits : (text bits : List ℕ) (a : AddressBits) (n : ℕ) → IsAddressText text a → bits ≡ decimal n → n < 256 → HasBitsAfter text bits → (n ≤ a.width) × (EndsBehind a n → ⊥)
same_bits text bits a n address is small h =
    let shorter = number_small text bits h in
    let same_n = decimal_injective h.length n (omega (arith, shorter)) (omega (arith, small)) (sym h.number ∙ is) in
    subst (λ (b : AddressBits). (n ≤ b.width) × (EndsBehind b n → ⊥)) (same_address text h.address a h.spelled address)
    (subst (λ (m : ℕ). (m ≤ h.address.width) × (EndsBehind h.address m → ⊥)) same_n (h.within, h.others))

-- a word without a slash
pub no_slash : (word : List ℕ) (r : Option (Bor (List ℕ) × Bor (List ℕ))) (P : Bor (List ℕ) × Bor (List ℕ) → Type 0) → MatchOption r ((i : ℕ) → i < length word → get_or word i 0 ≢ 47) P → r ≡ None → list_any is_slash word ≡ false
no_slash word None P none is = list_any_none is_slash word (All-from_get_or (λ b. is_slash b ≡ false) word 0 (λ i inside. ne_eqb (get_or word i 0) 47 (none i inside)))
no_slash word (Some x) P none is = absurd (none-some x (sym is))

-- which spells an address alone
pub whole_word : {E : Type 0} (word : List ℕ) (r : Result Prefix E) → list_any is_slash word ≡ false → Parses IsWholeAddress word r → Parses IsPrefixWord word r
whole_word word (Ok p) none h = subst (λ b. MatchBool b (IsPrefixSpelled (before_first is_slash word) (after_first is_slash word) p) (IsWholeAddress word p)) (sym none) h
whole_word word (Err e) none h = λ p spelled. h p (subst (λ b. MatchBool b (IsPrefixSpelled (before_first is_slash word) (after_first is_slash word) p) (IsWholeAddress word p)) none spelled)

-- and has no bits after a prefix
pub no_bits_after : (word : List ℕ) → list_any is_slash word ≡ false → IsWordWithBitsAfter word → ⊥
no_bits_after word none h = subst (λ b. MatchBool b (HasBitsAfter (before_first is_slash word) (after_first is_slash word)) ⊥) none h

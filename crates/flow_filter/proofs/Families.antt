-- A text spells networks of one family.
use Rattle.std.proofs.Common.{◌≡◌, ℕ, Bool, true, false, List, ap, sym, ◌∙◌}
use Rattle.std.specs.Bool.{MatchBool}
use Rattle.std.specs.List.{list_any, before_first, after_first}
use Rattle.std.proofs.NetLemmas.Theorems.{IsIpText_unique}
use Rattle.network_prefixes.specs.declared.address_bits.AddressBits.{AddressBits}
use Rattle.network_prefixes.specs.declared.prefix.Prefix.{Prefix}
use Rattle.network_prefixes.specs.Addresses.{address_bits}
use Rattle.network_prefixes.specs.Prefixes.{is_slash, IsAddressText, IsPrefixSpelled, IsPrefixWord, IsWholeAddress}
use Rattle.flow_filter.specs.declared.value_range.ValueRange.{ValueRange}
use Rattle.flow_filter.specs.declared.value_range.ValueRange.TheVariants.{Numbers, Network}
use Rattle.flow_filter.specs.Texts.{IsIpv4Network}

-- a text spells one address
same_width : (text : List ℕ) (a b : AddressBits) → IsAddressText text a → IsAddressText text b → a.width ≡ b.width
same_width text a b h k = ap (λ (x : AddressBits). x.width) (h.has ∙ ap address_bits (IsIpText_unique text h.address k.address h.spelled k.spelled) ∙ sym k.has)

either_width : (slash : Bool) (before after word : List ℕ) (p q : Prefix) → MatchBool slash (IsPrefixSpelled before after p) (IsWholeAddress word p) → MatchBool slash (IsPrefixSpelled before after q) (IsWholeAddress word q) → p.address.width ≡ q.address.width
either_width true before after word p q h k = same_width before p.address q.address h.address k.address
either_width false before after word p q h k = same_width word p.address q.address h.address k.address

-- a text that spells a network of another family spells none of IPv4
pub other_family : (text : List ℕ) (p : Prefix) (w : ValueRange) → IsPrefixWord text p → (p.address.width ≡ 32 → ⊥) → IsIpv4Network text w → ⊥
other_family text p (Network q) h other is = other (either_width (list_any is_slash text) (before_first is_slash text) (after_first is_slash text) text p q h is.0 ∙ is.1)
other_family text p (Numbers first last) h other is = is

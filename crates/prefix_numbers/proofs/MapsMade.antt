-- A map answers what the longest prefix says.
use Rattle.std.proofs.Common.{◌≡◌, ℕ, ◌+◌, ◌^◌, ◌<◌, ◌≤◌, List, [], ◌∷◌, take, length, inl, inr, sym, ap, subst, ◌∙◌, arith}
use Rattle.std.specs.Prelude.{◌==◌, nat_le, nat_lt, All, Contains, IsPermutation}
use Rattle.std.specs.List.{prefix_len, take_while}
use Rattle.std.specs.List.Retain.{IsFiltered, DiffersFromLast}
use Rattle.std.specs.List.Sorted.{IsNonDecreasing, IsSorted}
use Rattle.std.specs.Ordering.{nat_cmp}
use Rattle.std.proofs.lemmas.Bool.{cases_Bool, cond-true, cond-false, eq-eqb, ne_eqb, leb-true, lt-ltb}
use Rattle.std.proofs.lemmas.List.{get_or-take, length-take-le}
use Rattle.std.proofs.lemmas.List.Elements.{All-weaker}
use Rattle.std.proofs.lemmas.List.Filters.{dedup_is}
use Rattle.std.proofs.lemmas.List.Kept.{Contains-dedup_nat}
use Rattle.std.proofs.lemmas.List.Sorted.{Contains-permutation, IsNonDecreasingBy-take}
use Rattle.std.proofs.lemmas.List.Sums.{prefix_len_is, prefix_len_passes, prefix_len_stops, prefix_len-le-length}
use Rattle.std.proofs.lemmas.Map.Keys.{IsStrictlyIncreasing-dedup, non_decreasing_from_sorted, sorted_from_strictly_increasing}
use Rattle.network_prefixes.specs.Addresses.{bits_of_width}
use Rattle.network_prefixes.specs.declared.address_bits.AddressBits.{AddressBits}
use Rattle.prefix_numbers.specs.declared.flattening.Steps.{Steps}
use Rattle.prefix_numbers.specs.declared.prefix_map.PrefixMap.{PrefixMap}
use Rattle.prefix_numbers.specs.declared.row.NumberedPrefix.{NumberedPrefix}
use Rattle.prefix_numbers.specs.Flat.{IsFlat}
use Rattle.prefix_numbers.specs.Longest.{IsNumberOf}
use Rattle.prefix_numbers.specs.Maps.{number_of, IsMapOfRows}
use Rattle.prefix_numbers.specs.Spans.{HasEndsOf}
use Rattle.prefix_numbers.specs.Steps.{number_after, number_at, steps_to}
use Rattle.prefix_numbers.proofs.LongestRows.{number_permuted}
use Rattle.prefix_numbers.proofs.SpansOf.{ends_kept}

-- ---- starts in order, each once

pub starts_ascend : (xs ys : List ℕ) → IsSorted nat_cmp xs → IsFiltered (DiffersFromLast (λ x y. x == y)) [] xs ys → IsNonDecreasing ys
starts_ascend xs ys up filtered = subst IsNonDecreasing (sym (dedup_is (λ x y. x == y) xs ys filtered)) (non_decreasing_from_sorted _ (sorted_from_strictly_increasing _ (IsStrictlyIncreasing-dedup xs up)))

pub starts_have_ends : (width : ℕ) (rows : List NumberedPrefix) (ends xs ys : List ℕ) → IsPermutation ends xs → IsFiltered (DiffersFromLast (λ x y. x == y)) [] xs ys → All (HasEndsOf width ends) rows → All (HasEndsOf width ys) rows
starts_have_ends width rows ends xs ys same filtered h =
    All-weaker (HasEndsOf width ends) (HasEndsOf width ys)
    (ends_kept width ends ys (λ n here. subst (λ (l : List ℕ). Contains l n) (sym (dedup_is (λ x y. x == y) xs ys filtered)) (Contains-dedup_nat xs n (Contains-permutation ends xs n same here)))) rows h

-- ---- the starts that are addresses of IPv4

pub small_ascend : (starts lent found : List ℕ) → found ≡ take_while (λ start. nat_lt start (2 ^ 32)) lent → lent ≡ starts → IsNonDecreasing starts → IsNonDecreasing found
small_ascend starts lent found is whole up =
    subst IsNonDecreasing (sym (is ∙ ap (λ (l : List ℕ). take_while (λ start. nat_lt start (2 ^ 32)) l) whole)) (IsNonDecreasingBy-take (λ (x : ℕ). x) (prefix_len (λ start. nat_lt start (2 ^ 32)) starts) starts up)

steps_fewer : (starts : List ℕ) (a : ℕ) → a < 2 ^ 32 → steps_to starts a ≤ prefix_len (λ start. nat_lt start (2 ^ 32)) starts
steps_fewer [] a small = omega arith
steps_fewer (s ∷ starts) a small =
    elim (cases_Bool (nat_le s a)) [
      | inl is_so ↦
          let low : s ≤ a = leb-true _ _ is_so in
          let one : steps_to (s ∷ starts) a ≡ 1 + steps_to starts a = cond-true _ (1 + steps_to starts a) 0 is_so in
          let other : prefix_len (λ start. nat_lt start (2 ^ 32)) (s ∷ starts) ≡ 1 + prefix_len (λ start. nat_lt start (2 ^ 32)) starts = cond-true _ (1 + prefix_len (λ start. nat_lt start (2 ^ 32)) starts) 0 (lt-ltb s (2 ^ 32) (omega (arith, low, small))) in
          let rest = steps_fewer starts a small in
          omega (arith, one, other, rest)
      | inr not_so ↦ let none : steps_to (s ∷ starts) a ≡ 0 = cond-false _ (1 + steps_to starts a) 0 not_so in omega (arith, none)
    ]

-- as many of them are not above an address of IPv4
small_steps : (starts : List ℕ) (a : ℕ) → IsNonDecreasing starts → a < 2 ^ 32 → steps_to (take_while (λ start. nat_lt start (2 ^ 32)) starts) a ≡ steps_to starts a
small_steps starts a up small =
    let below = λ (start : ℕ). nat_lt start (2 ^ 32) in
    let n : ℕ = prefix_len below starts in
    let m : ℕ = steps_to starts a in
    let within : n ≤ length starts = prefix_len-le-length below starts in
    let within_m : m ≤ length starts = prefix_len-le-length (λ start. nat_le start a) starts in
    let long : length (take n starts) ≡ n = length-take-le n starts within in
    let fewer : m ≤ n = steps_fewer starts a small in
    prefix_len_is (λ start. nat_le start a) (take n starts) m 0 (omega (arith, long, fewer))
    (λ k k_below. ap (λ (x : ℕ). nat_le x a) (get_or-take n starts k 0 (omega (arith, k_below, fewer))) ∙ prefix_len_passes (λ start. nat_le start a) starts k 0 k_below)
    (λ more. ap (λ (x : ℕ). nat_le x a) (get_or-take n starts m 0 (omega (arith, more, long))) ∙ prefix_len_stops (λ start. nat_le start a) starts 0 (omega (arith, more, long, within)))

-- ---- the map

family_4 : (m : PrefixMap) (a : AddressBits) → a.width ≡ 32 → a.bits < 2 ^ 32 → number_of m a ≡ number_at m.ipv4_starts.items m.ipv4_numbers.items a.bits
unfolding number_of
family_4 m a is small = cond-true _ _ _ (eq-eqb a.width 32 is) ∙ cond-true _ _ _ (lt-ltb a.bits (2 ^ 32) small)

family_6 : (m : PrefixMap) (a : AddressBits) → a.width ≡ 128 → number_of m a ≡ number_at m.ipv6_starts.items m.ipv6_numbers.items a.bits
unfolding number_of
family_6 m a is = cond-false _ _ _ (ne_eqb a.width 32 (λ same. omega (arith, is, same)))

same_bits : (a : AddressBits) (w : ℕ) → a.width ≡ w → bits_of_width w a.bits ≡ a
same_bits a w is = ap (λ (v : ℕ). bits_of_width v a.bits) (sym is)

pub map_made : (rows sorted : List NumberedPrefix) (ipv4 ipv6 : Steps) (m : PrefixMap) → IsPermutation rows sorted → IsNonDecreasing ipv4.starts.items → IsFlat sorted 32 ipv4 → IsFlat sorted 128 ipv6
    → m.ipv4_starts.items ≡ take_while (λ start. nat_lt start (2 ^ 32)) ipv4.starts.items → m.ipv4_numbers.items ≡ ipv4.numbers.items → m.ipv6_starts.items ≡ ipv6.starts.items → m.ipv6_numbers.items ≡ ipv6.numbers.items → IsMapOfRows rows m
map_made rows sorted ipv4 ipv6 m same up flat_4 flat_6 starts_4 numbers_4 starts_6 numbers_6 a h =
    number_permuted rows sorted a _ same
    (elim h.family [
      | inl four ↦
          let small : a.bits < 2 ^ 32 = subst (λ (w : ℕ). a.bits < 2 ^ w) four h.bits in
          let is : number_of m a ≡ number_at ipv4.starts.items ipv4.numbers.items a.bits =
          family_4 m a four small
          ∙ ap (λ (l : List ℕ). number_at l m.ipv4_numbers.items a.bits) starts_4
          ∙ ap (λ (l : List ℕ). number_at (take_while (λ start. nat_lt start (2 ^ 32)) ipv4.starts.items) l a.bits) numbers_4
          ∙ ap (number_after ipv4.numbers.items) (small_steps ipv4.starts.items a.bits up small) in
          subst (λ (n : ℕ). IsNumberOf sorted a n) (sym is) (subst (λ (b : AddressBits). IsNumberOf sorted b (number_at ipv4.starts.items ipv4.numbers.items a.bits)) (same_bits a 32 four) (flat_4 a.bits (omega (arith, small))))
      | inr six ↦
          let small : a.bits < 2 ^ 128 = subst (λ (w : ℕ). a.bits < 2 ^ w) six h.bits in
          let is : number_of m a ≡ number_at ipv6.starts.items ipv6.numbers.items a.bits =
          family_6 m a six
          ∙ ap (λ (l : List ℕ). number_at l m.ipv6_numbers.items a.bits) starts_6
          ∙ ap (λ (l : List ℕ). number_at ipv6.starts.items l a.bits) numbers_6 in
          subst (λ (n : ℕ). IsNumberOf sorted a n) (sym is) (subst (λ (b : AddressBits). IsNumberOf sorted b (number_at ipv6.starts.items ipv6.numbers.items a.bits)) (same_bits a 128 six) (flat_6 a.bits small))
    ])

-- The addresses of a prefix, from its first one to its end.
use Rattle.std.proofs.Common.{◌≡◌, ℕ, ◌+◌, ◌-◌, ◌*◌, ◌/◌, ◌^◌, ◌<◌, ◌≤◌, Bool, true, false, if◌then◌else◌, List, take, length, get_or, Option, Some, None, inl, inr, sym, ap, subst, ◌∙◌, refl, arith}
use Rattle.std.specs.Prelude.{nat_lt, nat_le, ◌&&◌, All, Contains, slice_set}
use Rattle.std.specs.List.{prefix_len}
use Rattle.std.specs.List.Sorted.{IsNonDecreasing}
use Rattle.std.specs.Option.{SomeIff}
use Rattle.std.proofs.Math.Nat.{div-mul-le_self, mod-eq-sub-div-mul}
use Rattle.std.proofs.Math.Pow.{pow_mono}
use Rattle.std.proofs.lemmas.Bool.{and_parts, and_from, cases_eq, cases_Bool, cond-true, cond-false, cond_both, eq-eqb, eqb-true, le-leb, leb-true, lt-ltb, ltb-true, ltb-false}
use Rattle.std.proofs.lemmas.List.{get_or-set_same, get_or-set_other, take_all}
use Rattle.std.proofs.lemmas.List.Elements.{All-more, All-weaker}
use Rattle.std.proofs.lemmas.List.Sums.{prefix_len-le-length}
use Rattle.std.proofs.lemmas.Nat.{div-mul-add, mod_below}
use Rattle.std.proofs.lemmas.Option.{none-some}
use Rattle.network_prefixes.specs.Addresses.{bits_behind, bits_of_width, EndsBehind, first_bits}
use Rattle.network_prefixes.specs.declared.address_bits.AddressBits.{AddressBits}
use Rattle.network_prefixes.specs.declared.prefix.Prefix.{Prefix}
use Rattle.prefix_numbers.specs.declared.row.NumberedPrefix.{NumberedPrefix}
use Rattle.prefix_numbers.specs.Longest.{has}
use Rattle.prefix_numbers.specs.Paints.{end_place, is_within, IsFilled, IsPainted}
use Rattle.prefix_numbers.specs.Spans.{end_of, HasEndsOf, HasEndsToo}
use Rattle.prefix_numbers.proofs.Ascending.{place_below, place_not_below, same_answer}

-- ---- the end of a prefix

-- where a shift by so many bits leaves nothing, there is no end
pub no_end : (p : Prefix) (by v : ℕ) (shifted found : Option ℕ) → by ≡ bits_behind p.address p.length → shifted ≡ None → SomeIff shifted (by < 128) v → found ≡ None → SomeIff found (end_of p < 2 ^ 128) (end_of p)
no_end p by v (Some x) found is none h missing = absurd (none-some x (sym none))
no_end p by v None (Some x) is none h missing = absurd (none-some x (sym missing))
no_end p by v None None is none h missing = λ small.
    let all : 128 ≤ bits_behind p.address p.length = omega (arith, is, h) in
    let more : 2 ^ 128 ≤ 2 ^ bits_behind p.address p.length = pow_mono all in
    omega (arith, more, small)

-- ---- the addresses that a prefix has

-- a number divided is another just from that one's product on, up to the next
div_is : (a q m : ℕ) → q * m ≤ a → a < q * m + m → a / m ≡ q
div_is a q m low high =
    let rest : a ≡ q * m + (a - q * m) = omega (arith, low) in
    ap (λ (n : ℕ). n / m) rest ∙ div-mul-add q m (a - q * m) (omega (arith, low, high))

pow_positive : (b : ℕ) → 0 < 2 ^ b
pow_positive b = let least : 0 ≤ b = omega arith in let h : 2 ^ 0 ≤ 2 ^ b = pow_mono least in omega (arith, h)

div_high : (a m : ℕ) → 0 < m → a < a / m * m + m
div_high a m some =
    let rest = mod-eq-sub-div-mul a m in
    let small = mod_below a m some in
    let low = div-mul-le_self a m in
    omega (arith, rest, small, low)

module _ (p : Prefix) (a : ℕ) (zeros : EndsBehind p.address p.length) where
  within_has : is_within p.address.bits (end_of p) a ≡ true → has p (bits_of_width p.address.width a) ≡ true
  within_has h =
      let both = and_parts _ _ h in
      let low : p.address.bits ≤ a = leb-true _ _ both.0 in
      let high : a < end_of p = ltb-true _ _ both.1 in
      and_from _ _ (eq-eqb p.address.width p.address.width refl)
      (eq-eqb _ _ (div_is a (first_bits p.address p.length) (2 ^ bits_behind p.address p.length) (omega (arith, zeros, low)) (omega (arith, zeros, high))))

  has_within : has p (bits_of_width p.address.width a) ≡ true → is_within p.address.bits (end_of p) a ≡ true
  has_within h =
      let same : a / 2 ^ bits_behind p.address p.length ≡ first_bits p.address p.length = eqb-true _ _ (and_parts _ _ h).1 in
      let m : ℕ = 2 ^ bits_behind p.address p.length in
      let back : a / m * m ≡ p.address.bits = ap (λ (q : ℕ). q * m) same ∙ zeros in
      let low = div-mul-le_self a m in
      let high = div_high a m (pow_positive (bits_behind p.address p.length)) in
      and_from _ _ (le-leb p.address.bits a (omega (arith, back, low))) (lt-ltb a (end_of p) (omega (arith, back, high)))

  -- they are those from its first one to before its end
  pub within-has : is_within p.address.bits (end_of p) a ≡ has p (bits_of_width p.address.width a)
  within-has = same_answer _ _ within_has has_within

-- in another family it has none
pub other_family : (p : Prefix) (a : AddressBits) → (a.width ≡ p.address.width → ⊥) → has p a ≡ false
other_family p a other =
    elim (cases_Bool (has p a)) [
      | inl is_so ↦ absurd (other (eqb-true _ _ (and_parts _ _ is_so).0))
      | inr not_so ↦ not_so
    ]

-- ---- writing a number beside them

pub nothing_filled : (first number : ℕ) (old : List ℕ) → IsFilled first first number old old
nothing_filled first number old k inside =
    elim (cases_Bool (is_within first first k)) [
      | inl is_so ↦
          let both = and_parts _ _ is_so in
          let low : first ≤ k = leb-true _ _ both.0 in
          let high : k < first = ltb-true _ _ both.1 in
          absurd (omega (arith, low, high))
      | inr not_so ↦ sym (cond-false _ number (get_or old k 0) not_so)
    ]

next_within : (first place k : ℕ) → (k ≡ place → ⊥) → is_within first (place + 1) k ≡ is_within first place k
next_within first place k other =
    same_answer _ _
    (λ h. let both = and_parts _ _ h in let high : k < place + 1 = ltb-true _ _ both.1 in and_from _ _ both.0 (lt-ltb k place (omega (arith, high, other))))
    (λ h. let both = and_parts _ _ h in let high : k < place = ltb-true _ _ both.1 in and_from _ _ both.0 (lt-ltb k (place + 1) (omega (arith, high))))

pub filled_more : (first place number : ℕ) (old new : List ℕ) → first ≤ place → place < length new → IsFilled first place number old new → IsFilled first (place + 1) number old (slice_set new place number)
filled_more first place number old new from inside h k within =
    elim (cases_eq k place) [
      | inl here ↦
          let is : is_within first (place + 1) k ≡ true = and_from _ _ (le-leb first k (omega (arith, from, here))) (lt-ltb k (place + 1) (omega (arith, here))) in
          ap (λ (i : ℕ). get_or (slice_set new place number) i 0) here ∙ get_or-set_same new place number 0 inside ∙ sym (cond-true _ number (get_or old k 0) is)
      | inr other ↦
          get_or-set_other new place k number 0 other ∙ h k within
          ∙ ap (λ (b : Bool). if b then number else (get_or old k 0)) (sym (next_within first place k other))
    ]

-- at the end of the loop
ends_within : (first place end k : ℕ) → first ≤ place → end ≤ place → (end < place → place ≤ first) → is_within first place k ≡ is_within first end k
ends_within first place end k from to none =
    same_answer _ _
    (λ h.
    let both = and_parts _ _ h in
    let low : first ≤ k = leb-true _ _ both.0 in
    let high : k < place = ltb-true _ _ both.1 in
    and_from _ _ both.0 (lt-ltb k end (elim (cases_Bool (nat_lt end place)) [
      | inl is_so ↦ let more : end < place = ltb-true _ _ is_so in absurd (omega (arith, low, high, none more))
      | inr not_so ↦ let same : place ≤ end = ltb-false _ _ not_so in omega (arith, high, same)
    ])))
    (λ h. let both = and_parts _ _ h in let high : k < end = ltb-true _ _ both.1 in and_from _ _ both.0 (lt-ltb k place (omega (arith, high, to))))

pub filled_all : (first place end number : ℕ) (old new : List ℕ) → first ≤ place → end ≤ place → (end < place → place ≤ first) → IsFilled first place number old new → IsFilled first end number old new
filled_all first place end number old new from to none h k inside =
    h k inside ∙ ap (λ (b : Bool). if b then number else (get_or old k 0)) (ends_within first place end k from to none)

-- a place is before the end of a prefix just where its number is
before_end : (starts : List ℕ) (p : Prefix) (k : ℕ) → IsNonDecreasing starts → k < length starts → get_or starts k 0 < 2 ^ 128 → nat_lt k (end_place starts p) ≡ nat_lt (get_or starts k 0) (end_of p)
before_end starts p k up inside small =
    elim (cases_Bool (nat_lt (end_of p) (2 ^ 128))) [
      | inl is_so ↦ ap (λ (n : ℕ). nat_lt k n) (cond-true _ (prefix_len (λ start. nat_lt start (end_of p)) starts) (length starts) is_so) ∙ place_below starts (end_of p) k up inside
      | inr not_so ↦
          let far : 2 ^ 128 ≤ end_of p = ltb-false _ _ not_so in
          ap (λ (n : ℕ). nat_lt k n) (cond-false _ (prefix_len (λ start. nat_lt start (end_of p)) starts) (length starts) not_so)
          ∙ lt-ltb k (length starts) inside
          ∙ sym (lt-ltb (get_or starts k 0) (end_of p) (omega (arith, far, small)))
    ]

pub end_is_within : (starts : List ℕ) (p : Prefix) → end_place starts p ≤ length starts
end_is_within starts p = cond_both (nat_lt (end_of p) (2 ^ 128)) (prefix_len (λ start. nat_lt start (end_of p)) starts) (length starts) (λ n. n ≤ length starts) (λ is_so. prefix_len-le-length (λ start. nat_lt start (end_of p)) starts) (λ not_so. omega arith)

-- a row's number is written beside the starts that its prefix has
pub painted : (starts old new : List ℕ) (row : NumberedPrefix) (first end : ℕ) → IsNonDecreasing starts → length old ≡ length starts → first ≡ prefix_len (λ start. nat_lt start row.prefix.address.bits) starts
    → end ≡ end_place starts row.prefix → IsFilled first end row.number old new → IsPainted starts row old new
painted starts old new row first end up beside is ends h k inside small =
    h k (omega (arith, beside, inside))
    ∙ ap (λ (b : Bool). if b then row.number else (get_or old k 0))
    (ap (λ (n : ℕ). nat_le n k && nat_lt k end) is
    ∙ ap (λ (n : ℕ). nat_le (prefix_len (λ start. nat_lt start row.prefix.address.bits) starts) k && nat_lt k n) ends
    ∙ ap (λ (b : Bool). b && nat_lt k (end_place starts row.prefix)) (place_not_below starts row.prefix.address.bits k up inside)
    ∙ ap (λ (b : Bool). nat_le row.prefix.address.bits (get_or starts k 0) && b) (before_end starts row.prefix k up inside small))

-- ---- the ends of prefixes

-- more numbers have them too
pub ends_kept : (width : ℕ) (old new : List ℕ) → ((n : ℕ) → Contains old n → Contains new n) → (row : NumberedPrefix) → HasEndsOf width old row → HasEndsOf width new row
ends_kept width old new kept row h family = record { first = kept _ (h family).first; after = λ small. kept _ ((h family).after small) }

-- ---- the ends of one prefix after another

pub ends_more : (rows : List NumberedPrefix) (i width : ℕ) (d : NumberedPrefix) (old new : List ℕ) → i < length rows → All (HasEndsOf width old) (take i rows) → HasEndsToo (get_or rows i d).prefix old new → All (HasEndsOf width new) (take (i + 1) rows)
ends_more rows i width d old new inside before h =
    All-more (HasEndsOf width new) rows i d inside (All-weaker (HasEndsOf width old) (HasEndsOf width new) (ends_kept width old new h.kept) (take i rows) before) (λ same. h.ends)

pub ends_skip : (rows : List NumberedPrefix) (i width : ℕ) (d : NumberedPrefix) (ends : List ℕ) → i < length rows → All (HasEndsOf width ends) (take i rows) → ((get_or rows i d).prefix.address.width ≡ width → ⊥) → All (HasEndsOf width ends) (take (i + 1) rows)
ends_skip rows i width d ends inside before other = All-more (HasEndsOf width ends) rows i d inside before (λ same. absurd (other same))

pub ends_all : (rows : List NumberedPrefix) (i width : ℕ) (ends : List ℕ) → length rows ≤ i → All (HasEndsOf width ends) (take i rows) → All (HasEndsOf width ends) rows
ends_all rows i width ends all h = subst (λ (l : List NumberedPrefix). All (HasEndsOf width ends) l) (take_all i rows all) h

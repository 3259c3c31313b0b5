-- Steps answer what the longest prefix says.
use Rattle.std.proofs.Common.{◌≡◌, ℕ, zero, suc, ◌+◌, ◌<◌, ◌≤◌, ◌^◌, true, false, if◌then◌else◌, List, [], ◌∷◌, ◌++◌, take, length, get_or, inl, inr, sym, ap, subst, ◌∙◌, refl, arith}
use Rattle.std.specs.Prelude.{All, Contains, nat_le, nat_lt}
use Rattle.std.specs.List.Sorted.{IsNonDecreasing, IsNonDecreasingBy}
use Rattle.std.proofs.lemmas.Bool.{and_parts, and_from, cases_Bool, cases_eq, cond-true, cond-false, eqb-true, leb-true, ltb-true, ltb-false, le-leb, lt-ltb}
use Rattle.std.proofs.lemmas.List.{get_or_default, take_more}
use Rattle.std.proofs.lemmas.List.Elements.{All-get_or}
use Rattle.std.proofs.lemmas.List.Sums.{prefix_len-le-length}
use Rattle.network_prefixes.specs.Addresses.{bits_of_width}
use Rattle.prefix_numbers.specs.declared.row.NumberedPrefix.{NumberedPrefix}
use Rattle.prefix_numbers.specs.Flat.{AreNumbers}
use Rattle.prefix_numbers.specs.Longest.{has, IsNumberOf}
use Rattle.prefix_numbers.specs.Paints.{is_within, IsPainted}
use Rattle.prefix_numbers.specs.Spans.{end_of, HasEnds, HasEndsOf, HasZeros}
use Rattle.prefix_numbers.specs.Steps.{number_after, number_at, steps_to}
use Rattle.prefix_numbers.proofs.Ascending.{place_up_to, same_answer, up_to_place}
use Rattle.prefix_numbers.proofs.LongestRows.{number_along, number_skips, number_takes, shorter_before}
use Rattle.prefix_numbers.proofs.SpansOf.{other_family, within-has}

-- ---- one row after another

-- a row of another family
pub numbers_skip : (rows : List NumberedPrefix) (i width : ℕ) (d : NumberedPrefix) (starts numbers : List ℕ) → i < length rows → ((get_or rows i d).prefix.address.width ≡ width → ⊥) → AreNumbers (take i rows) width starts numbers → AreNumbers (take (i + 1) rows) width starts numbers
numbers_skip rows i width d starts numbers inside other h = record {
  beside = h.beside;
  are = λ k within small.
      subst (λ (l : List NumberedPrefix). IsNumberOf l (bits_of_width width (get_or starts k 0)) (get_or numbers k 0)) (sym (take_more rows i d inside))
      (number_skips (take i rows) (get_or rows i d) (bits_of_width width (get_or starts k 0)) _ (other_family (get_or rows i d).prefix _ (λ same. other (sym same))) (h.are k within small));
}

-- one start, where the row's number is written if its prefix has the start
one_number : (rows : List NumberedPrefix) (row : NumberedPrefix) (a old new : ℕ) → HasZeros row → All (λ (other : NumberedPrefix). other.prefix.length ≤ row.prefix.length) rows
    → new ≡ (if is_within row.prefix.address.bits (end_of row.prefix) a then row.number else old) → IsNumberOf rows (bits_of_width row.prefix.address.width a) old → IsNumberOf (rows ++ row ∷ []) (bits_of_width row.prefix.address.width a) new
one_number rows row a old new zeros shorter is h =
    elim (cases_Bool (is_within row.prefix.address.bits (end_of row.prefix) a)) [
      | inl is_so ↦ number_takes rows row _ new (sym (within-has row.prefix a zeros) ∙ is_so) shorter (is ∙ cond-true _ row.number old is_so)
      | inr not_so ↦ subst (λ (n : ℕ). IsNumberOf (rows ++ row ∷ []) (bits_of_width row.prefix.address.width a) n) (sym (is ∙ cond-false _ row.number old not_so)) (number_skips rows row _ old (sym (within-has row.prefix a zeros) ∙ not_so) h)
    ]

-- a row of the family
pub numbers_take : (rows : List NumberedPrefix) (i width : ℕ) (d : NumberedPrefix) (starts old lent new : List ℕ) → i < length rows → (get_or rows i d).prefix.address.width ≡ width
    → lent ≡ old → IsNonDecreasingBy (λ (row : NumberedPrefix). row.prefix.length) rows → All HasZeros rows → length new ≡ length lent → IsPainted starts (get_or rows i d) lent new → AreNumbers (take i rows) width starts old → AreNumbers (take (i + 1) rows) width starts new
numbers_take rows i width d starts old lent new inside same whole up zeros long painted_lent h =
    let painted = subst (λ (l : List ℕ). IsPainted starts (get_or rows i d) l new) whole painted_lent in
    record {
      beside = long ∙ ap length whole ∙ h.beside;
      are = λ k within small.
          subst (λ (l : List NumberedPrefix). IsNumberOf l (bits_of_width width (get_or starts k 0)) (get_or new k 0)) (sym (take_more rows i d inside))
          (subst (λ (w : ℕ). IsNumberOf (take i rows ++ get_or rows i d ∷ []) (bits_of_width w (get_or starts k 0)) (get_or new k 0)) same
          (one_number (take i rows) (get_or rows i d) (get_or starts k 0) (get_or old k 0) (get_or new k 0) (All-get_or HasZeros rows i d inside zeros) (shorter_before rows i d up inside) (painted k within small)
          (subst (λ (w : ℕ). IsNumberOf (take i rows) (bits_of_width w (get_or starts k 0)) (get_or old k 0)) (sym same) (h.are k within small))));
    }

-- ---- from the starts to all addresses

module _ (width a : ℕ) (starts : List ℕ) (up : IsNonDecreasing starts) (small : a < 2 ^ 128) where
  -- where a number that is not above the address is among the starts, it is at one of the first places
  among_first : (n : ℕ) → Contains starts n → n ≤ a → (k : ℕ) × (k < steps_to starts a) × (k < length starts) × (get_or starts k 0 ≡ n)
  among_first n here low =
      let is : get_or starts here.0 0 ≡ n = get_or_default starts here.0 0 n here.1 ∙ here.2 in
      (here.0, place_up_to starts a here.0 up here.1 (omega (arith, is, low)), here.1, is)

  -- before the first start no prefix has it
  none_before : (row : NumberedPrefix) → HasZeros row → HasEndsOf width starts row → steps_to starts a ≡ 0 → has row.prefix (bits_of_width width a) ≡ false
  none_before row zeros ends none =
      elim (cases_Bool (has row.prefix (bits_of_width width a))) [
        | inr not_so ↦ not_so
        | inl is_so ↦
            let family : width ≡ row.prefix.address.width = eqb-true _ _ (and_parts _ _ is_so).0 in
            let here : has row.prefix (bits_of_width row.prefix.address.width a) ≡ true = subst (λ (w : ℕ). has row.prefix (bits_of_width w a) ≡ true) family is_so in
            let within = and_parts _ _ (within-has row.prefix a zeros ∙ here) in
            let low : row.prefix.address.bits ≤ a = leb-true _ _ within.0 in
            let found = among_first row.prefix.address.bits (ends (sym family)).first low in
            absurd (omega (arith, none, found.1))
      ]

  -- a prefix has it just where it has the last start that is not above it
  module _ (m : ℕ) (last : steps_to starts a ≡ suc m) where
    inside : m < length starts
    inside = omega (arith, last, prefix_len-le-length (λ s. nat_le s a) starts)

    start_low : get_or starts m 0 ≤ a
    start_low = up_to_place starts a m (omega (arith, last))

    upto : (k : ℕ) → k < steps_to starts a → get_or starts k 0 ≤ get_or starts m 0
    upto k below = up k m 0 (omega (arith, last, below)) inside

    within_start : (row : NumberedPrefix) → HasEnds starts row.prefix → is_within row.prefix.address.bits (end_of row.prefix) a ≡ true → is_within row.prefix.address.bits (end_of row.prefix) (get_or starts m 0) ≡ true
    within_start row ends h =
        let both = and_parts _ _ h in
        let low : row.prefix.address.bits ≤ a = leb-true _ _ both.0 in
        let high : a < end_of row.prefix = ltb-true _ _ both.1 in
        let found = among_first row.prefix.address.bits ends.first low in
        let first : get_or starts found.0 0 ≤ get_or starts m 0 = upto found.0 found.1 in
        and_from _ _ (le-leb row.prefix.address.bits (get_or starts m 0) (omega (arith, first, found.3))) (lt-ltb (get_or starts m 0) (end_of row.prefix) (omega (arith, high, start_low)))

    start_within : (row : NumberedPrefix) → HasEnds starts row.prefix → is_within row.prefix.address.bits (end_of row.prefix) (get_or starts m 0) ≡ true → is_within row.prefix.address.bits (end_of row.prefix) a ≡ true
    start_within row ends h =
        let both = and_parts _ _ h in
        let low : row.prefix.address.bits ≤ get_or starts m 0 = leb-true _ _ both.0 in
        let high : get_or starts m 0 < end_of row.prefix = ltb-true _ _ both.1 in
        and_from _ _ (le-leb row.prefix.address.bits a (omega (arith, low, start_low))) (lt-ltb a (end_of row.prefix) (elim (cases_Bool (nat_lt a (end_of row.prefix))) [
          | inl is_so ↦ ltb-true _ _ is_so
          | inr not_so ↦
              let before : end_of row.prefix ≤ a = ltb-false _ _ not_so in
              let found = among_first (end_of row.prefix) (ends.after (omega (arith, before, small))) before in
              let first : get_or starts found.0 0 ≤ get_or starts m 0 = upto found.0 found.1 in
              absurd (omega (arith, first, found.3, high))
        ]))

    same_prefixes : (row : NumberedPrefix) → HasZeros row → HasEndsOf width starts row → has row.prefix (bits_of_width width a) ≡ has row.prefix (bits_of_width width (get_or starts m 0))
    same_prefixes row zeros ends =
        elim (cases_eq row.prefix.address.width width) [
          | inl same ↦
              subst (λ (w : ℕ). has row.prefix (bits_of_width w a) ≡ has row.prefix (bits_of_width w (get_or starts m 0))) same
              (sym (within-has row.prefix a zeros) ∙ same_answer _ _ (within_start row (ends same)) (start_within row (ends same)) ∙ within-has row.prefix (get_or starts m 0) zeros)
          | inr other ↦ other_family row.prefix (bits_of_width width a) (λ same. other (sym same)) ∙ sym (other_family row.prefix (bits_of_width width (get_or starts m 0)) (λ same. other (sym same)))
        ]

  flat_at : (rows : List NumberedPrefix) (numbers : List ℕ) (n : ℕ) → steps_to starts a ≡ n → All HasZeros rows → All (HasEndsOf width starts) rows → AreNumbers rows width starts numbers → IsNumberOf rows (bits_of_width width a) (number_after numbers n)
  flat_at rows numbers zero none zeros ends h = inr (record { none = λ k d within. none_before (get_or rows k d) (zeros k d within) (ends k d within) none; is = refl })
  flat_at rows numbers (suc m) last zeros ends h =
      let low = start_low m last in
      number_along rows (bits_of_width width a) (bits_of_width width (get_or starts m 0)) (get_or numbers m 0) (λ k d within. same_prefixes m last (get_or rows k d) (zeros k d within) (ends k d within))
      (h.are m (inside m last) (omega (arith, low, small)))

pub flat : (rows : List NumberedPrefix) (width : ℕ) (starts numbers : List ℕ) → IsNonDecreasing starts → All HasZeros rows → All (HasEndsOf width starts) rows → AreNumbers rows width starts numbers
    → (a : ℕ) → a < 2 ^ 128 → IsNumberOf rows (bits_of_width width a) (number_at starts numbers a)
flat rows width starts numbers up zeros ends h a small = flat_at width a starts up small rows numbers (steps_to starts a) refl zeros ends h

-- A binary search of entries whose numbers ascend finds what going through them finds.
use Rattle.std.proofs.Common.{◌≡◌, ◌≢◌, ◌==◌, ℕ, zero, suc, ◌<◌, ◌≤◌, true, List, [], ◌∷◌, length, get_or, map, find, Some, None, Result, Ok, Err, Option, refl, sym, subst, arith}
use Rattle.std.specs.Result.{result_ok}
use Rattle.std.specs.List.Sorted.{IsSearchInRange, IsBinarySearchResult, IsNonDecreasingBy}
use Rattle.std.specs.Ordering.{nat_cmp, ordering_index}
use Rattle.std.proofs.lemmas.Cmp.{ranked}
use Rattle.std.proofs.lemmas.List.Sorted.{IsNonDecreasingBy-from_default}
use Rattle.std.proofs.lemmas.Bool.Decides.{nat_tests}
use Rattle.ipfix_elements.specs.declared.element.Entry as kept
use Rattle.ipfix_elements.specs.declared.kind.Kind.TheVariants.{Octets}
use Rattle.ipfix_elements.specs.Entries.{rise, shown}
use Rattle.ipfix_elements.specs.Elements.{Entry}

-- an entry, if there is none
abbrev pub no_entry : kept.Entry
no_entry = record { number = 0; name = record { ref_ptr = (0, 0); now = [] }; kind = Octets }

abbrev numbers : List kept.Entry → List ℕ
numbers rows = map (λ r. r.number) rows

rise_tail : (m : ℕ) (ns : List ℕ) → rise (m ∷ ns) ≡ true → rise ns ≡ true
rise_tail m [] h = refl
rise_tail m (n ∷ ns) h = grind (arith, nat_tests)

rise_head : (m n : ℕ) (ns : List ℕ) → rise (m ∷ n ∷ ns) ≡ true → m < n
rise_head m n ns h = grind (arith, nat_tests)

-- the first number is below each later one
below : (r : kept.Entry) (rows : List kept.Entry) (d : kept.Entry) (k : ℕ) → rise (numbers (r ∷ rows)) ≡ true → k < length rows → r.number < (get_or rows k d).number
below r [] d k h inside = absurd (omega arith)
below r (s ∷ rows) d zero h inside = rise_head r.number s.number (numbers rows) h
below r (s ∷ rows) d (suc k) h inside =
    let first = rise_head r.number s.number (numbers rows) h in
    let later = below s rows d k (rise_tail r.number (numbers (s ∷ rows)) h) (omega arith) in
    omega (arith, first, later)

ordered : (rows : List kept.Entry) (d : kept.Entry) (i j : ℕ) → rise (numbers rows) ≡ true → i ≤ j → j < length rows → (get_or rows i d).number ≤ (get_or rows j d).number
ordered [] d i j h le inside = absurd (omega arith)
ordered (r ∷ rows) d zero zero h le inside = omega arith
ordered (r ∷ rows) d zero (suc j) h le inside = let first = below r rows d j h (omega arith) in omega (arith, first)
ordered (r ∷ rows) d (suc i) zero h le inside = absurd (omega arith)
ordered (r ∷ rows) d (suc i) (suc j) h le inside = ordered rows d i j (rise_tail r.number (numbers rows) h) (omega arith) (omega arith)

-- going through the entries
abbrev through : ℕ → List kept.Entry → Option Entry
through n rows = find (λ r. r.number == n) (map shown rows)

through_at : (rows : List kept.Entry) (d : kept.Entry) (n i : ℕ) → rise (numbers rows) ≡ true → i < length rows → (get_or rows i d).number ≡ n → Some (shown (get_or rows i d)) ≡ through n rows
through_at [] d n i h inside is = absurd (omega arith)
through_at (r ∷ rows) d n zero h inside is = grind (arith, nat_tests)
through_at (r ∷ rows) d n (suc i) h inside is =
    let first = below r rows d i h (omega arith) in
    let rest = through_at rows d n i (rise_tail r.number (numbers rows) h) (omega arith) is in
    grind (arith, nat_tests)

through_none : (rows : List kept.Entry) (d : kept.Entry) (n : ℕ) → ((k : ℕ) → k < length rows → (get_or rows k d).number ≢ n) → None ≡ through n rows
through_none [] d n other = refl
through_none (r ∷ rows) d n other =
    let first = other 0 (omega arith) in
    let rest = through_none rows d n (λ k inside. other (suc k) (omega arith)) in
    grind (arith, nat_tests)

module _ (rows : List kept.Entry) (d : kept.Entry) (n : ℕ) (up : rise (numbers rows) ≡ true) where
  comparisons_rise : IsNonDecreasingBy (λ r. ordering_index (nat_cmp r.number n)) rows
  comparisons_rise = IsNonDecreasingBy-from_default (λ r. ordering_index (nat_cmp r.number n)) rows d (λ i j le inside. let rise = ordered rows d i j up le inside in grind (arith, nat_tests))

  pub found : (r : Result ℕ ℕ) (i : ℕ) → IsSearchInRange r (length rows) → IsBinarySearchResult (λ r. nat_cmp r.number n) rows r → Some i ≡ result_ok r → Some (shown (get_or rows i d)) ≡ through n rows
  found (Err e) i inside at is = cc
  found (Ok k) i inside at is =
      let e : k ≡ i = cc is in
      subst (λ (j : ℕ). Some (shown (get_or rows j d)) ≡ through n rows) e (through_at rows d n k up inside (ranked _ n _ (sym (at d))))

  pub absent : (r : Result ℕ ℕ) → IsSearchInRange r (length rows) → IsBinarySearchResult (λ r. nat_cmp r.number n) rows r → None ≡ result_ok r → None ≡ through n rows
  absent (Ok k) inside parted is = cc
  absent (Err at) inside parted is = through_none rows d n other
    where
      other : (k : ℕ) → k < length rows → (get_or rows k d).number ≢ n
      other k within same = grind (arith, λ (lt : k < at). ranked _ n _ (sym ((parted comparisons_rise).0 k d (omega arith) lt)), λ (le : at ≤ k). ranked _ n _ (sym ((parted comparisons_rise).1 k d le within)))

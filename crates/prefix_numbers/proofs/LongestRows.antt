-- The number of the longest prefix, row after row.
use Rattle.std.proofs.Common.{◌≡◌, ℕ, ◌<◌, ◌≤◌, true, false, List, [], ◌∷◌, ◌++◌, take, length, get_or, inl, inr, sym, subst, ◌∙◌, arith}
use Rattle.std.specs.Prelude.{All, IsPermutation}
use Rattle.std.specs.List.Sorted.{IsNonDecreasingBy}
use Rattle.std.proofs.lemmas.Bool.{false≢true}
use Rattle.std.proofs.lemmas.List.{get_or-take, length-take-le}
use Rattle.std.proofs.lemmas.List.Elements.{All-from_get_or, All-push, All-weaker, All-contains, Contains-append_left, Contains-push}
use Rattle.std.proofs.lemmas.List.Sorted.{All-permutation, Contains-permutation, IsPermutation-sym}
use Rattle.network_prefixes.specs.declared.address_bits.AddressBits.{AddressBits}
use Rattle.prefix_numbers.specs.declared.row.NumberedPrefix.{NumberedPrefix}
use Rattle.prefix_numbers.specs.Longest.{has, IsNumberOf}

-- a row more whose prefix does not have the address
pub number_skips : (rows : List NumberedPrefix) (row : NumberedPrefix) (a : AddressBits) (n : ℕ) → has row.prefix a ≡ false → IsNumberOf rows a n → IsNumberOf (rows ++ row ∷ []) a n
number_skips rows row a n out (inl h) = inl (record {
  row = h.row;
  longest = record {
    among = Contains-append_left rows (row ∷ []) h.row h.longest.among;
    here = h.longest.here;
    longest = All-push (λ (other : NumberedPrefix). has other.prefix a ≡ true → other.prefix.length ≤ h.row.prefix.length) rows row h.longest.longest (λ is. absurd (false≢true (sym out ∙ is)));
  };
  is = h.is;
})
number_skips rows row a n out (inr h) = inr (record { none = All-push (λ (other : NumberedPrefix). has other.prefix a ≡ false) rows row h.none out; is = h.is })

-- a row more whose prefix has it, and is no shorter than those before
pub number_takes : (rows : List NumberedPrefix) (row : NumberedPrefix) (a : AddressBits) (n : ℕ) → has row.prefix a ≡ true → All (λ (other : NumberedPrefix). other.prefix.length ≤ row.prefix.length) rows → n ≡ row.number → IsNumberOf (rows ++ row ∷ []) a n
number_takes rows row a n here shorter is = inl (record {
  row = row;
  longest = record {
    among = Contains-push rows row;
    here = here;
    longest = All-push (λ (other : NumberedPrefix). has other.prefix a ≡ true → other.prefix.length ≤ row.prefix.length) rows row
        (All-weaker (λ (other : NumberedPrefix). other.prefix.length ≤ row.prefix.length) (λ (other : NumberedPrefix). has other.prefix a ≡ true → other.prefix.length ≤ row.prefix.length) (λ x le h. le) rows shorter)
        (λ h. omega arith);
  };
  is = is;
})

-- ---- rows in the order of their lengths

pub shorter_before : (rows : List NumberedPrefix) (i : ℕ) (e : NumberedPrefix) → IsNonDecreasingBy (λ (row : NumberedPrefix). row.prefix.length) rows → i < length rows → All (λ (other : NumberedPrefix). other.prefix.length ≤ (get_or rows i e).prefix.length) (take i rows)
shorter_before rows i e up inside =
    All-from_get_or (λ (other : NumberedPrefix). other.prefix.length ≤ (get_or rows i e).prefix.length) (take i rows) e (λ k below.
    let before : k < i = omega (arith, below, length-take-le i rows (omega (arith, inside))) in
    subst (λ (other : NumberedPrefix). other.prefix.length ≤ (get_or rows i e).prefix.length) (sym (get_or-take i rows k e before)) (up k i e (omega (arith, before)) inside))

-- ---- an address that the same prefixes have

pub number_along : (rows : List NumberedPrefix) (a b : AddressBits) (n : ℕ) → All (λ (row : NumberedPrefix). has row.prefix a ≡ has row.prefix b) rows → IsNumberOf rows b n → IsNumberOf rows a n
number_along rows a b n same (inl h) = inl (record {
  row = h.row;
  longest = record {
    among = h.longest.among;
    here = All-contains (λ (row : NumberedPrefix). has row.prefix a ≡ has row.prefix b) rows h.row same h.longest.among ∙ h.longest.here;
    longest = λ k d inside is. h.longest.longest k d inside (sym (same k d inside) ∙ is);
  };
  is = h.is;
})
number_along rows a b n same (inr h) = inr (record { none = λ k d inside. same k d inside ∙ h.none k d inside; is = h.is })

-- ---- rows in another order

pub number_permuted : (rows sorted : List NumberedPrefix) (a : AddressBits) (n : ℕ) → IsPermutation rows sorted → IsNumberOf sorted a n → IsNumberOf rows a n
number_permuted rows sorted a n same (inl h) =
    let back = IsPermutation-sym rows sorted same in
    inl (record {
      row = h.row;
      longest = record {
        among = Contains-permutation sorted rows h.row back h.longest.among;
        here = h.longest.here;
        longest = All-permutation (λ (other : NumberedPrefix). has other.prefix a ≡ true → other.prefix.length ≤ h.row.prefix.length) sorted rows back h.longest.longest;
      };
      is = h.is;
    })
number_permuted rows sorted a n same (inr h) =
    inr (record { none = All-permutation (λ (row : NumberedPrefix). has row.prefix a ≡ false) sorted rows (IsPermutation-sym rows sorted same) h.none; is = h.is })

-- Inputs that come twice, by the places that are noted for their digests.
use Rattle.std.proofs.Common.{Equal, ◌≡◌, ℕ, ◌+◌, ◌<◌, ◌≤◌, List, [], ◌∷◌, ◌++◌, length, map, take, get_or, refl, sym, ap, subst, ◌∙◌, arith, Option, Some, None}
use Rattle.std.specs.Prelude.{All, Bool, true, false, cond, IfNone, IfSome}
use Rattle.std.specs.Cmp.Lexicographic.{slice_cmp}
use Rattle.std.specs.Ordering.{is_eq, nat_cmp}
use Rattle.std.specs.BTreeMap.{is_at}
use Rattle.std.proofs.lemmas.List.{get_or-append-add, get_or-map, get_or-take, take-map, get_or_append_left, length-append, length-map, map-append, take_all, take_more, length-take-le}
use Rattle.std.proofs.lemmas.List.Elements.{All-cons, All-head, All-nil, All-push, All-tail}
use Rattle.std.proofs.lemmas.Cmp.{nat_list_cmp_total, tied_itself}
use Rattle.std.proofs.lemmas.Map.Lookups.{exact_bytes}
use Rattle.std.proofs.lemmas.Map.Views.{tells_apart}
use Rattle.table_receipts.specs.Values.{InputValue}
use Rattle.receipt_merging.specs.Noted.{AreNoted, IsNoted, IsSameAt, NotesOneMore}
use Rattle.receipt_merging.specs.Once.{AreSame, EachOnce, IsSameInput}

-- ---- one more input

-- others stay where they are
stays_noted : (is : List InputValue) (j : InputValue) (digest : List ℕ) (found : Option ℕ) → (0 < j.records → j.file.digest ≡ digest → ⊥) → IsNoted is digest found → IsNoted (is ++ j ∷ []) digest found
stays_noted is j digest None other noted = All-push (λ (i : InputValue). 0 < i.records → i.file.digest ≡ digest → ⊥) is j noted other
stays_noted is j digest (Some place) other noted =
    let count : length (is ++ j ∷ []) ≡ length is + 1 = length-append is (j ∷ []) in (
      omega (arith, count, noted.0),
      λ d.
          let same : get_or (is ++ j ∷ []) place d ≡ get_or is place d = get_or_append_left is (j ∷ []) d place noted.0 in
          subst (λ (i : InputValue). (0 < i.records) × (i.file.digest ≡ digest)) (sym same) (noted.1 d),
    )

-- it is at their end
at_end : (is : List InputValue) (j : InputValue) (digest : List ℕ) (place : ℕ) → place ≡ length is → 0 < j.records → j.file.digest ≡ digest → IsNoted (is ++ j ∷ []) digest (Some place)
at_end is j digest place at some same =
    let count : length (is ++ j ∷ []) ≡ length is + 1 = length-append is (j ∷ []) in (
      omega (arith, count, at),
      λ d.
          let last : get_or (is ++ j ∷ []) (length is + 0) d ≡ j = get_or-append-add is (j ∷ []) 0 d in
          let zero : length is + 0 ≡ place = omega (arith, at) in
          let there : get_or (is ++ j ∷ []) place d ≡ j = ap (λ (n : ℕ). get_or (is ++ j ∷ []) n d) (sym zero) ∙ last in
          subst (λ (i : InputValue). (0 < i.records) × (i.file.digest ≡ digest)) (sym there) (some, same),
    )

never_same : (is : List InputValue) (j : InputValue) → j.records ≡ 0 → All (λ i. IsSameInput i j → ⊥) is
never_same [] j none = All-nil (λ i. IsSameInput i j → ⊥)
never_same (i ∷ is) j none = All-cons (λ i. IsSameInput i j → ⊥) i is (λ same. omega (arith, none, same.has_too)) (never_same is j none)

-- an input without data records isn't noted
pub skips : (is : List InputValue) (j : InputValue) (found : List ℕ → Option ℕ) → j.records ≡ 0 → AreNoted is found → NotesOneMore is j found
skips is j found none noted = record {
  other = never_same is j none;
  noted = λ digest. stays_noted is j digest (found digest) (λ some same. omega (arith, none, some)) (noted digest);
}

none_same : (is : List InputValue) (j : InputValue) → All (λ (i : InputValue). 0 < i.records → i.file.digest ≡ j.file.digest → ⊥) is → All (λ i. IsSameInput i j → ⊥) is
none_same [] j none = All-nil (λ i. IsSameInput i j → ⊥)
none_same (i ∷ is) j none =
    let P : InputValue → Type 0 = λ (i : InputValue). 0 < i.records → i.file.digest ≡ j.file.digest → ⊥ in
    All-cons (λ i. IsSameInput i j → ⊥) i is (λ same. All-head P i is none same.has_records same.digests) (none_same is j (All-tail P i is none))

-- what is found of a digest after one more
after_one : (is : List InputValue) (j : InputValue) (place : ℕ) (digest : List ℕ) (found : Option ℕ) (at : Bool) → at ≡ is_at (slice_cmp nat_cmp j.file.digest) digest → place ≡ length is → 0 < j.records
    → IsNoted is digest found → IsNoted (is ++ j ∷ []) digest (cond at (Some place) found)
after_one is j place digest found true is_it at some noted = at_end is j digest place at some (tells_apart exact_bytes j.file.digest digest (sym is_it))
after_one is j place digest found false is_it at some noted =
    stays_noted is j digest found (λ _ same.
    let tied : slice_cmp nat_cmp j.file.digest digest ≡ Equal = subst (λ (d : List ℕ). slice_cmp nat_cmp j.file.digest d ≡ Equal) same (tied_itself nat_list_cmp_total j.file.digest) in
    let never : false ≡ true = is_it ∙ ap is_eq tied in
    cc) noted

-- one that has them, and a digest that wasn't noted, is
pub notes : (is : List InputValue) (j : InputValue) (place : ℕ) (found more : List ℕ → Option ℕ) → place ≡ length is → 0 < j.records → None ≡ found j.file.digest
    → ((digest : List ℕ) → more digest ≡ cond (is_at (slice_cmp nat_cmp j.file.digest) digest) (Some place) (found digest)) → AreNoted is found → NotesOneMore is j more
notes is j place found more at some new_one is_more noted = record {
  other = none_same is j (subst (IsNoted is j.file.digest) (sym new_one) (noted j.file.digest));
  noted = λ digest. subst (IsNoted (is ++ j ∷ []) digest) (sym (is_more digest)) (after_one is j place digest (found digest) (is_at (slice_cmp nat_cmp j.file.digest) digest) refl at some (noted digest));
}

-- one whose digest was noted is the same as the one there
pub same_noted : (is : List InputValue) (j : InputValue) (found : List ℕ → Option ℕ) (first : ℕ) → 0 < j.records → Some first ≡ found j.file.digest → AreNoted is found → IsSameAt is j first
same_noted is j found first some known noted =
    let there = subst (IsNoted is j.file.digest) (sym known) (noted j.file.digest) in
    record { within = there.0; same = λ d. record { has_records = (there.1 d).0; has_too = some; digests = (there.1 d).1 } }

-- the same by what was found of its digest
module _ (is : List InputValue) (j : InputValue) (found : List ℕ → Option ℕ) (some : 0 < j.records) (noted : AreNoted is found) where
  pub if_same : (first : Option ℕ) → first ≡ found j.file.digest → IfSome first (IsSameAt is j)
  if_same None known = tt
  if_same (Some first) known = same_noted is j found first some known noted

  pub if_new : (first : Option ℕ) (place : ℕ) (more : List ℕ → Option ℕ) → first ≡ found j.file.digest → place ≡ length is
      → ((digest : List ℕ) → more digest ≡ cond (is_at (slice_cmp nat_cmp j.file.digest) digest) (Some place) (found digest)) → IfNone first (NotesOneMore is j more)
  if_new None place more known at is_more = notes is j place found more at some known is_more noted
  if_new (Some first) place more known at is_more = tt

-- ---- all of them

once_push : (is : List InputValue) (j : InputValue) → EachOnce is → All (λ i. IsSameInput i j → ⊥) is → EachOnce (is ++ j ∷ [])
once_push [] j once other = (All-nil (λ k. IsSameInput j k → ⊥), tt)
once_push (i ∷ is) j once other =
    let P : InputValue → Type 0 = λ (i : InputValue). IsSameInput i j → ⊥ in
    (All-push (λ k. IsSameInput i k → ⊥) is j once.0 (All-head P i is other), once_push is j once.1 (All-tail P i is other))

module _ {A : Type 0} (f : A → InputValue) (xs : List A) (i : ℕ) (x : A) (within : i < length xs) (is : x ≡ get_or xs i x) where
  pub one_more : map f (take (i + 1) xs) ≡ map f (take i xs) ++ f x ∷ []
  one_more = ap (map f) (take_more xs i x within ∙ ap (λ (y : A). take i xs ++ y ∷ []) (sym is)) ∙ map-append f (take i xs) (x ∷ [])

  pub so_many : i ≡ length (map f (take i xs))
  so_many = sym (length-map (take i xs) f ∙ length-take-le i xs (omega (arith, within)))

  pub once_more : (found : List ℕ → Option ℕ) → EachOnce (map f (take i xs)) → NotesOneMore (map f (take i xs)) (f x) found → EachOnce (map f (take (i + 1) xs))
  once_more found once noted = subst EachOnce (sym one_more) (once_push (map f (take i xs)) (f x) once noted.other)

  pub noted_more : (found : List ℕ → Option ℕ) → NotesOneMore (map f (take i xs)) (f x) found → AreNoted (map f (take (i + 1) xs)) found
  noted_more found noted = subst (λ (is : List InputValue). AreNoted is found) (sym one_more) noted.noted

  -- one that is the same as one before it
  pub same_as_first : (first : ℕ) → IsSameAt (map f (take i xs)) (f x) first → AreSame (map f xs) first i
  same_as_first first at =
      let count : length (map f xs) ≡ length xs = length-map xs f in
      let before : first < i = omega (arith, at.within, so_many) in
      record {
        order = before;
        within = omega (arith, within, count);
        same = λ d.
            let second : get_or (map f xs) i d ≡ f x = get_or-map f xs i x d within ∙ sym (ap f is) in
            let one : get_or (map f (take i xs)) first d ≡ get_or (map f xs) first d = ap (λ (l : List InputValue). get_or l first d) (sym (take-map f i xs)) ∙ get_or-take i (map f xs) first d before in
            subst (λ (j : InputValue). IsSameInput (get_or (map f xs) first d) j) (sym second) (subst (λ (j : InputValue). IsSameInput j (f x)) one (at.same d));
      }

pub once_all : {A : Type 0} (f : A → InputValue) (xs : List A) (i : ℕ) → length xs ≤ i → EachOnce (map f (take i xs)) → EachOnce (map f xs)
once_all f xs i enough once = subst (λ ys. EachOnce (map f ys)) (take_all i xs enough) once

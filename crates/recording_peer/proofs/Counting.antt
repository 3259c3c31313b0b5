-- What is left of a domain's count without the templates of its ids that have none.
use Rattle.std.proofs.Common.{◌≡◌, ◌+◌, ◌≤◌, arith, ℕ, Bool, true, false, cond, eqb, List, [], ◌∷◌, Some, refl, sym, ap, subst, ◌∙◌, inl, inr}
use Rattle.std.specs.Prelude.{◌⊎◌, ◌||◌, sum, sum_by, unwrap_or}
use Rattle.std.specs.List.{AllByRecursion, IsDistinct, list_any}
use Rattle.std.specs.List.Sorted.{IsStrictlySortedBy}
use Rattle.std.specs.Map.{keys_of, lookup, remove_entry, values_of}
use Rattle.std.specs.Ordering.{nat_cmp, eq_by_cmp}
use Rattle.std.specs.Cmp.{unsigned_tied}
use Rattle.std.proofs.lemmas.Bool.{eq-eqb}
use Rattle.std.proofs.lemmas.Bool.Decides.{eqb_tells}
use Rattle.std.proofs.lemmas.List.Sums.{sum_by-cons}
use Rattle.std.proofs.lemmas.Map.Keys.{IsDistinct-from_sorted}

-- the count of an id in a list of counts
abbrev pub count_at : List (ℕ × ℕ) → ℕ → ℕ
count_at cs id = unwrap_or (lookup (eqb id) cs) 0

abbrev is_among : ℕ → List ℕ → Bool
is_among id ids = list_any (λ b. eqb b id) ids

same_way : (a b : ℕ) → eqb a b ≡ eqb b a
same_way a b = elim (eqb_tells a b) [
  | inl here ↦ here.0 ∙ sym (eq-eqb b a (sym here.1))
  | inr other ↦ elim (eqb_tells b a) [ inl there ↦ absurd (other.1 (sym there.1)) | inr none ↦ other.0 ∙ sym none.0 ]
]

-- ---- each id at most once

same_sums : (f g : ℕ → ℕ) (ids : List ℕ) → AllByRecursion (λ q. f q ≡ g q) ids → sum_by f ids ≡ sum_by g ids
same_sums f g [] h = refl
same_sums f g (q ∷ ids) h = let a = sum_by-cons f q ids in let b = sum_by-cons g q ids in let c = same_sums f g ids h.1 in let d = h.0 in omega (arith, a, b, c, d)

without_it : (cs : List (ℕ × ℕ)) (b q : ℕ) → eqb b q ≡ false → count_at cs q ≡ count_at (remove_entry (eqb b) cs) q
without_it [] b q other = refl
without_it (c ∷ cs) b q other = elim (eqb_tells b c.0) [
  | inl here ↦
      let apart : eqb q c.0 ≡ false = same_way q c.0 ∙ ap (λ k. eqb k q) (sym here.1) ∙ other in
      rw (here.0, apart) refl
  | inr there ↦ rw there.0 (by (eqb q c.0) (without_it cs b q other))
]
  where
    by : (t : Bool) → count_at cs q ≡ count_at (remove_entry (eqb b) cs) q → unwrap_or (cond t (Some c.1) (lookup (eqb q) cs)) 0 ≡ unwrap_or (cond t (Some c.1) (lookup (eqb q) (remove_entry (eqb b) cs))) 0
    by true more = refl
    by false more = more

one_out : (cs : List (ℕ × ℕ)) (b : ℕ) → sum (values_of (remove_entry (eqb b) cs)) + count_at cs b ≡ sum (values_of cs)
one_out [] b = refl
one_out (c ∷ cs) b = elim (eqb_tells b c.0) [
  | inl here ↦ rw here.0 (let a = sum_by-cons (λ (n : ℕ). n) c.1 (values_of cs) in omega (arith, a))
  | inr there ↦ rw there.0 (let a = sum_by-cons (λ (n : ℕ). n) c.1 (values_of cs) in let d = sum_by-cons (λ (n : ℕ). n) c.1 (values_of (remove_entry (eqb b) cs)) in let e = one_out cs b in omega (arith, a, d, e))
]

pub at_most_all : (cs : List (ℕ × ℕ)) (ids : List ℕ) → IsDistinct eqb ids → sum_by (count_at cs) ids ≤ sum (values_of cs)
unfolding IsDistinct
at_most_all cs [] d = omega arith
at_most_all cs (b ∷ ids) d =
    let rest = remove_entry (eqb b) cs in
    let more = at_most_all rest ids d.1 in
    let same = same_sums (count_at cs) (count_at rest) ids (each ids d.0) in
    let out = one_out cs b in
    let first = sum_by-cons (count_at cs) b ids in
    omega (arith, more, same, out, first)
  where
    each : (qs : List ℕ) → AllByRecursion (λ q. eqb b q ≡ false) qs → AllByRecursion (λ q. count_at cs q ≡ count_at (remove_entry (eqb b) cs) q) qs
    each [] h = tt
    each (q ∷ qs) h = (without_it cs b q h.0, each qs h.1)

apart_more : (id b : ℕ) (ids : List ℕ) (t : Bool) → eqb b id ≡ t → (t || is_among id ids) ≡ false → (is_among id ids ≡ false → AllByRecursion (λ q. eqb id q ≡ false) ids) → AllByRecursion (λ q. eqb id q ≡ false) (b ∷ ids)
apart_more id b ids true e g later = cc
apart_more id b ids false e g later = (same_way id b ∙ e, later g)

apart_from : (id : ℕ) (ids : List ℕ) → is_among id ids ≡ false → AllByRecursion (λ q. eqb id q ≡ false) ids
apart_from id [] h = tt
apart_from id (b ∷ ids) h = apart_more id b ids (eqb b id) refl h (apart_from id ids)

-- with one that isn't among them
pub with_another : (cs : List (ℕ × ℕ)) (ids : List ℕ) (id : ℕ) → IsDistinct eqb ids → is_among id ids ≡ false → count_at cs id + sum_by (count_at cs) ids ≤ sum (values_of cs)
unfolding IsDistinct
with_another cs ids id d out =
    let all = at_most_all cs (id ∷ ids) (apart_from id ids out, d) in
    let first = sum_by-cons (count_at cs) id ids in
    omega (arith, all, first)

-- ---- one that isn't among ids

pub record IsOpen (cs : List (ℕ × ℕ)) (ids : List ℕ) : Type 0 where
  pub id : ℕ
  pub count : ℕ
  pub there : lookup (eqb id) cs ≡ Some count
  pub out : is_among id ids ≡ false

more_sums : (f g : ℕ → ℕ) (ids : List ℕ) → ((q : ℕ) → f q ≤ g q) → sum_by f ids ≤ sum_by g ids
more_sums f g [] h = omega arith
more_sums f g (q ∷ ids) h = let a = sum_by-cons f q ids in let b = sum_by-cons g q ids in let c = more_sums f g ids h in let d = h q in omega (arith, a, b, c, d)

with_count : (k c : ℕ) (f : ℕ → ℕ) (ids : List ℕ) → f k ≡ 0 → is_among k ids ≡ true → c + sum_by f ids ≤ sum_by (λ q. cond (eqb q k) c (f q)) ids
with_count k c f [] none among = cc
with_count k c f (b ∷ ids) none among = elim (eqb_tells b k) [
  | inl here ↦
      let nothing : f b ≡ 0 = ap f here.1 ∙ none in
      let at : cond (eqb b k) c (f b) ≡ c = rw here.0 refl in
      let more = more_sums f (λ q. cond (eqb q k) c (f q)) ids each in
      let x = sum_by-cons f b ids in
      let y = sum_by-cons (λ q. cond (eqb q k) c (f q)) b ids in
      omega (arith, nothing, at, more, x, y)
  | inr there ↦
      let at : cond (eqb b k) c (f b) ≡ f b = rw there.0 refl in
      let later : is_among k ids ≡ true = by (eqb b k) there.0 among in
      let more = with_count k c f ids none later in
      let x = sum_by-cons f b ids in
      let y = sum_by-cons (λ q. cond (eqb q k) c (f q)) b ids in
      omega (arith, at, more, x, y)
]
  where
    each : (q : ℕ) → f q ≤ cond (eqb q k) c (f q)
    each q = elim (eqb_tells q k) [
      | inl here ↦ let nothing : f q ≡ 0 = ap f here.1 ∙ none in omega (arith, nothing)
      | inr there ↦ rw there.0 (omega arith)
    ]

    by : (t : Bool) → t ≡ false → (t || is_among k ids) ≡ true → is_among k ids ≡ true
    by t e g = rw e at g

none_of : (k : ℕ) (cs : List (ℕ × ℕ)) → AllByRecursion (λ q. eqb k q ≡ false) (keys_of cs) → count_at cs k ≡ 0
none_of k [] h = refl
none_of k (c ∷ cs) h = rw h.0 (none_of k cs h.1)

module _ (c : ℕ × ℕ) (cs : List (ℕ × ℕ)) (ids : List ℕ) where
  open_still : IsOpen cs ids → IsOpen (c ∷ cs) ids
  open_still o = elim (eqb_tells o.id c.0) [
    | inl same ↦ record { id = o.id; count = c.1; there = rw same.0 refl; out = o.out }
    | inr other ↦ record { id = o.id; count = o.count; there = rw other.0 o.there; out = o.out }
  ]

  both_at : (q : ℕ) → cond (eqb q c.0) c.1 (count_at cs q) ≡ count_at (c ∷ cs) q
  both_at q = by_test (eqb q c.0)
    where
      by_test : (t : Bool) → cond t c.1 (count_at cs q) ≡ unwrap_or (cond t (Some c.1) (lookup (eqb q) cs)) 0
      by_test true = refl
      by_test false = refl

  all_both : (qs : List ℕ) → AllByRecursion (λ q. cond (eqb q c.0) c.1 (count_at cs q) ≡ count_at (c ∷ cs) q) qs
  all_both [] = tt
  all_both (q ∷ qs) = (both_at q, all_both qs)

  open_more : (t : Bool) → is_among c.0 ids ≡ t → AllByRecursion (λ q. eqb c.0 q ≡ false) (keys_of cs) → IsOpen cs ids ⊎ (sum (values_of cs) ≤ sum_by (count_at cs) ids) → IsOpen (c ∷ cs) ids ⊎ (sum (values_of (c ∷ cs)) ≤ sum_by (count_at (c ∷ cs)) ids)
  open_more false e apart so_far = inl (record { id = c.0; count = c.1; there = rw (eq-eqb c.0 c.0 refl) refl; out = e })
  open_more true e apart (inl o) = inl (open_still o)
  open_more true e apart (inr all) =
      let first = sum_by-cons (λ (n : ℕ). n) c.1 (values_of cs) in
      let more = with_count c.0 c.1 (count_at cs) ids (none_of c.0 cs apart) e in
      let same = same_sums (λ q. cond (eqb q c.0) c.1 (count_at cs q)) (count_at (c ∷ cs)) ids (all_both ids) in
      inr (omega (arith, first, more, same, all))

pub open_or_all : (cs : List (ℕ × ℕ)) (ids : List ℕ) → IsDistinct eqb (keys_of cs) → IsOpen cs ids ⊎ (sum (values_of cs) ≤ sum_by (count_at cs) ids)
unfolding IsDistinct
open_or_all [] ids d = inr (omega arith)
open_or_all (c ∷ cs) ids d = open_more c cs ids (is_among c.0 ids) refl d.0 (open_or_all cs ids d.1)

-- ---- entries of which something holds

module _ {X : Type 0} (holds : ℕ × X → Bool) where
  pub record IsEntry (es : List (ℕ × X)) : Type 0 where
    pub key : ℕ
    pub value : X
    pub there : lookup (eqb key) es ≡ Some value
    pub holds_there : holds (key, value) ≡ true

  same_key : (k q : ℕ) → eqb k q ≡ true → k ≡ q
  same_key k q t = elim (eqb_tells k q) [ inl here ↦ here.1 | inr other ↦ let no : true ≡ false = sym t ∙ other.0 in absurd cc ]

  apart_at : (k : ℕ) (v : X) (e f : ℕ × X) (fs : List (ℕ × X)) (t : Bool) → eqb k f.0 ≡ t → eqb e.0 f.0 ≡ false → cond t (Some f.1) (lookup (eqb k) fs) ≡ Some v → (lookup (eqb k) fs ≡ Some v → eqb k e.0 ≡ false) → eqb k e.0 ≡ false
  apart_at k v e f fs true same a g later = ap (λ q. eqb q e.0) (same_key k f.0 same) ∙ same_way f.0 e.0 ∙ a
  apart_at k v e f fs false other a g later = later g

  key_apart : (k : ℕ) (v : X) (e : ℕ × X) (fs : List (ℕ × X)) → AllByRecursion (λ q. eqb e.0 q ≡ false) (keys_of fs) → lookup (eqb k) fs ≡ Some v → eqb k e.0 ≡ false
  key_apart k v e [] a l = cc
  key_apart k v e (f ∷ fs) a l = apart_at k v e f fs (eqb k f.0) refl a.0 l (key_apart k v e fs a.1)

  any_more : (e : ℕ × X) (es : List (ℕ × X)) (t : Bool) → holds e ≡ t → (t || list_any holds es) ≡ true → AllByRecursion (λ q. eqb e.0 q ≡ false) (keys_of es) → (list_any holds es ≡ true → IsEntry es) → IsEntry (e ∷ es)
  any_more e es true is g apart later = record { key = e.0; value = e.1; there = rw (eq-eqb e.0 e.0 refl) refl; holds_there = is }
  any_more e es false is g apart later =
      let x = later g in
      record { key = x.key; value = x.value; there = rw (key_apart x.key x.value e es apart x.there) x.there; holds_there = x.holds_there }

  pub any_entry : (es : List (ℕ × X)) → IsDistinct eqb (keys_of es) → list_any holds es ≡ true → IsEntry es
  unfolding IsDistinct
  any_entry [] d h = cc
  any_entry (e ∷ es) d h = any_more e es (holds e) refl h d.0 (any_entry es d.1)

  no_more : (e : ℕ × X) (es : List (ℕ × X)) (k : ℕ) (v : X) (t u : Bool) → holds e ≡ t → (t || list_any holds es) ≡ false → eqb k e.0 ≡ u → cond u (Some e.1) (lookup (eqb k) es) ≡ Some v
      → (list_any holds es ≡ false → lookup (eqb k) es ≡ Some v → holds (k, v) ≡ false) → holds (k, v) ≡ false
  no_more e es k v true u is g same at later = cc
  no_more e es k v false true is g same at later = let value : e.1 ≡ v = cc in ap holds (λ i. (same_key k e.0 same i, sym value i)) ∙ is
  no_more e es k v false false is g other at later = later g at

  pub no_entry : (es : List (ℕ × X)) (k : ℕ) (v : X) → list_any holds es ≡ false → lookup (eqb k) es ≡ Some v → holds (k, v) ≡ false
  no_entry [] k v h l = cc
  no_entry (e ∷ es) k v h l = no_more e es k v (holds e) (eqb k e.0) refl h refl l (no_entry es k v)

-- ---- keys in order

pub as_equal : {X : Type 0} (k : ℕ) (es : List (ℕ × X)) → lookup (eq_by_cmp nat_cmp k) es ≡ lookup (eqb k) es
as_equal k es = λ i. lookup (λ q. unsigned_tied k q i) es

pub are_distinct : (ks : List ℕ) → IsStrictlySortedBy nat_cmp ks → IsDistinct eqb ks
are_distinct ks s = subst (λ (e : ℕ → ℕ → Bool). IsDistinct e ks) (λ i a b. unsigned_tied a b i) (IsDistinct-from_sorted nat_cmp ks s)

-- Rows added up: one more row, and rows that stand at places of their own.
use Rattle.std.proofs.Common.{◌≡◌, ◌≢◌, ◌⊎◌, ℕ, List, [], ◌∷◌, ◌++◌, map, Option, Some, None, refl, sym, ap, ◌∙◌, subst, inl, inr, arith}
use Rattle.std.specs.List.Sorted.{IsStrictlySortedBy}
use Rattle.std.proofs.lemmas.Map.Keys.{sorted_tail}
use Rattle.std.proofs.lemmas.Map.Views.{All-after_first}
use Rattle.ipfix_elements.specs.declared.cell.Cell.{Cell}
use Rattle.flow_table.specs.AddedUp.{place, total_of, part_of, added_to, added_up, AddUpTooLarge}
use Rattle.flow_table.specs.Rows.{is_same_key, is_same_interval}
use Rattle.flow_table.specs.SameTables.{RowValue}
use Rattle.flow_table.specs.Tables.{place_cmp}
use Rattle.flow_table.specs.Totals.{Total, added, joined, HasLarge, IsLargeAt}
use Rattle.flow_table.proofs.Keyed.{itself}
use Rattle.flow_table.proofs.Places.{keys_tell, intervals_tell}
use Rattle.flow_table.proofs.OneTable.{Among, below_all, places_asymmetric}

-- ---- one list after the other

pub added_to-append : (before : Option Total) (xs ys : List RowValue) (k : ℕ) (q : List Cell) → added_to before (xs ++ ys) k q ≡ added_to (added_to before xs k q) ys k q
added_to-append before [] ys k q = refl
added_to-append before (x ∷ xs) ys k q = added_to-append (joined before (part_of x k q)) xs ys k q

pub added_up-append : (xs ys : List RowValue) (k : ℕ) (q : List Cell) → added_up (xs ++ ys) k q ≡ added_to (added_up xs k q) ys k q
unfolding added_up
added_up-append xs ys k q = added_to-append None xs ys k q

pub added_up-push : (rows : List RowValue) (row : RowValue) (k : ℕ) (q : List Cell) → added_up (rows ++ row ∷ []) k q ≡ joined (added_up rows k q) (part_of row k q)
added_up-push rows row k q = added_up-append rows (row ∷ []) k q

pub added_up-none : (k : ℕ) (q : List Cell) → added_up [] k q ≡ None
unfolding added_up
added_up-none k q = refl

-- ---- one row

pub own_part : (row : RowValue) → part_of row row.interval row.key ≡ Some (total_of row)
own_part row = rw (itself is_same_interval intervals_tell row.interval, itself is_same_key keys_tell row.key) refl

pub place_tells : (row : RowValue) (k : ℕ) (q : List Cell) → (place row ≡ (k, q)) ⊎ (place row ≢ (k, q))
place_tells row k q =
    elim (intervals_tell k row.interval) [
      | inl y ↦ elim (keys_tell q row.key) [
        | inl z ↦ inl (let a = y.1 in let b = z.1 in cc)
        | inr n ↦ inr (λ e. n.1 (sym (ap (λ (w : ℕ × List Cell). w.1) e)))
      ]
      | inr n ↦ inr (λ e. n.1 (sym (ap (λ (w : ℕ × List Cell). w.0) e)))
    ]

pub other_part : (row : RowValue) (k : ℕ) (q : List Cell) → place row ≢ (k, q) → part_of row k q ≡ None
other_part row k q other =
    elim (intervals_tell k row.interval) [
      | inl y ↦ elim (keys_tell q row.key) [
        | inl z ↦ absurd (other (let a = y.1 in let b = z.1 in cc))
        | inr n ↦ rw (y.0, n.0) refl
      ]
      | inr n ↦ rw n.0 refl
    ]

-- ---- rows in order

pub among_map : {X Y : Type 0} (f : X → Y) (xs : List X) (x : X) → Among xs x → Among (map f xs) (f x)
among_map f [] x h = absurd h
among_map f (y ∷ ys) x (inl here) = inl (ap f here)
among_map f (y ∷ ys) x (inr later) = inr (among_map f ys x later)

-- the first of rows in order stands at a place of its own
pub not_later : (row : RowValue) (rows : List RowValue) → IsStrictlySortedBy place_cmp (place row ∷ map place rows) → Among (map place rows) (place row) → ⊥
not_later row rows sorted h =
    let less = below_all place_cmp (place row) (map place rows) (place row) (All-after_first place_cmp (place row) (map place rows) sorted) h in
    places_asymmetric (place row) (place row) less less

none_added : (before : Option Total) (rows : List RowValue) (k : ℕ) (q : List Cell) → (Among (map place rows) (k, q) → ⊥) → added_to before rows k q ≡ before
none_added before [] k q none = refl
none_added before (row ∷ rows) k q none =
    ap (λ (o : Option Total). added_to (joined before o) rows k q) (other_part row k q (λ e. none (inl e))) ∙ none_added before rows k q (λ h. none (inr h))

one_added : (before : Option Total) (rows : List RowValue) (row : RowValue) → IsStrictlySortedBy place_cmp (map place rows) → Among rows row
    → added_to before rows row.interval row.key ≡ joined before (Some (total_of row))
one_added before [] row sorted h = absurd h
one_added before (x ∷ xs) row sorted (inl here) =
    subst (λ (w : RowValue). added_to before (x ∷ xs) w.interval w.key ≡ joined before (Some (total_of w))) here
    (none_added (joined before (part_of x x.interval x.key)) xs x.interval x.key (not_later x xs sorted) ∙ ap (λ (o : Option Total). joined before o) (own_part x))
one_added before (x ∷ xs) row sorted (inr later) =
    let apart : place x ≢ (row.interval, row.key) = λ e. not_later x xs sorted (subst (λ (z : ℕ × List Cell). Among (map place xs) z) (sym e) (among_map place xs row later)) in
    ap (λ (o : Option Total). added_to (joined before o) xs row.interval row.key) (other_part x row.interval row.key apart)
    ∙ one_added before xs row (sorted_tail place_cmp (place x) (map place xs) sorted) later

-- a place has a row or has none
pub place_or_none : (rows : List RowValue) (k : ℕ) (q : List Cell) → ((row : RowValue) × Among rows row × (place row ≡ (k, q))) ⊎ (Among (map place rows) (k, q) → ⊥)
place_or_none [] k q = inr (λ h. h)
place_or_none (x ∷ xs) k q = by (place_tells x k q) (place_or_none xs k q)
  where
    by : (place x ≡ (k, q)) ⊎ (place x ≢ (k, q)) → ((row : RowValue) × Among xs row × (place row ≡ (k, q))) ⊎ (Among (map place xs) (k, q) → ⊥)
        → ((row : RowValue) × Among (x ∷ xs) row × (place row ≡ (k, q))) ⊎ (Among (map place (x ∷ xs)) (k, q) → ⊥)
    by (inl here) rest = inl (x, inl refl, here)
    by (inr other) (inl found) = inl (found.0, inr found.1, found.2)
    by (inr other) (inr none) = inr (λ h. elim h as (λ _. ⊥) [ inl here ↦ other here | inr later ↦ none later ])

-- totals of the rows' places alone
pub record AreTotalsOf (f : ℕ → List Cell → Option Total) (rows : List RowValue) : Type 0 where
  pub ascending : IsStrictlySortedBy place_cmp (map place rows)
  pub own : (row : RowValue) → Among rows row → f row.interval row.key ≡ Some (total_of row)
  pub none : (k : ℕ) (q : List Cell) → (Among (map place rows) (k, q) → ⊥) → f k q ≡ None

-- rows in order have each place's totals once
pub added_once : (f : ℕ → List Cell → Option Total) (rows : List RowValue) (before : Option Total) (k : ℕ) (q : List Cell) → AreTotalsOf f rows → added_to before rows k q ≡ joined before (f k q)
added_once f rows before k q are =
    elim (place_or_none rows k q) [
      | inl found ↦
          let here = one_added before rows found.0 are.ascending found.1 ∙ ap (λ (o : Option Total). joined before o) (sym (are.own found.0 found.1)) in
          subst (λ (z : ℕ × List Cell). added_to before rows z.0 z.1 ≡ joined before (f z.0 z.1)) found.2 here
      | inr none ↦ none_added before rows k q none ∙ ap (λ (o : Option Total). joined before o) (sym (are.none k q none))
    ]

joined_none : (o : Option Total) → joined None o ≡ o
joined_none None = refl
joined_none (Some t) = refl

pub added_up-once : (f : ℕ → List Cell → Option Total) (rows : List RowValue) (k : ℕ) (q : List Cell) → AreTotalsOf f rows → added_up rows k q ≡ f k q
unfolding added_up
added_up-once f rows k q are = added_once f rows None k q are ∙ joined_none (f k q)

-- rows in order add up to themselves
pub own_sums : (rows : List RowValue) → IsStrictlySortedBy place_cmp (map place rows) → AreTotalsOf (added_up rows) rows
unfolding added_up
own_sums rows sorted =
    record {
      ascending = sorted;
      own = λ row h. one_added None rows row sorted h;
      none = λ k q none. none_added None rows k q none;
    }

-- ---- too large

large_sum : (xs ys : List ℕ) → HasLarge xs → HasLarge (added xs ys)
large_sum [] ys h = absurd h
large_sum (x ∷ xs) [] h = h
large_sum (x ∷ xs) (y ∷ ys) (inl h) = inl (omega arith)
large_sum (x ∷ xs) (y ∷ ys) (inr h) = inr (large_sum xs ys h)

large_joined : (a b : Option Total) → IsLargeAt a → IsLargeAt (joined a b)
large_joined None b h = absurd h
large_joined (Some t) None h = h
large_joined (Some t) (Some u) (inl h) = inl (large_sum t.sums u.sums h)
large_joined (Some t) (Some u) (inr h) = inr (omega arith)

large_stays : (before : Option Total) (rows : List RowValue) (k : ℕ) (q : List Cell) → IsLargeAt before → IsLargeAt (added_to before rows k q)
large_stays before [] k q h = h
large_stays before (row ∷ rows) k q h = large_stays (joined before (part_of row k q)) rows k q (large_joined before (part_of row k q) h)

-- what is too large stays so with more rows
pub too_large_more : (xs ys : List RowValue) → AddUpTooLarge xs → AddUpTooLarge (xs ++ ys)
too_large_more xs ys large = (large.0, large.1, subst IsLargeAt (sym (added_up-append xs ys large.0 large.1)) (large_stays (added_up xs large.0 large.1) ys large.0 large.1 large.2))

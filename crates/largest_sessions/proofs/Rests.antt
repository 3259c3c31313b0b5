-- What rows in order have at places before them, at the first place, and after it.
use Rattle.std.proofs.Common.{◌≡◌, ℕ, ◌+◌, Bool, List, [], ◌∷◌, map, refl, sym, ap, ap₂, ◌∙◌, subst, inl, inr, arith}
use Rattle.std.specs.Prelude.{◌≢◌, if◌then◌else◌}
use Rattle.std.specs.List.Sorted.{IsStrictlySortedBy}
use Rattle.std.specs.declared.cmp.Ordering.TheVariants.{Less}
use Rattle.std.proofs.lemmas.Map.Keys.{sorted_tail}
use Rattle.std.proofs.lemmas.Map.Views.{All-after_first}
use Rattle.std.proofs.lemmas.List.Elements.{All-head}
use Rattle.flow_table.specs.AddedUp.{place}
use Rattle.flow_table.specs.SameTables.{RowValue}
use Rattle.flow_table.specs.Tables.{place_cmp}
use Rattle.largest_sessions.specs.LeftOut.{Place}
use Rattle.largest_sessions.specs.SessionNumbers.{number_of, number_at, by_rows}
use Rattle.largest_sessions.specs.Walks.{Ascend, first_number, IsNotBefore, after_place}
use Rattle.largest_sessions.proofs.PlaceOrder.{places_total, place_tells}

-- ---- one row

pub none_ascend : Ascend []
unfolding IsStrictlySortedBy
none_ascend = tt

pub off_place : (row : RowValue) (p : Place) (n : ℕ) → place row ≢ p → number_at row p n ≡ 0
off_place row p n other = elim (place_tells p (place row)) [
  | inl same ↦ absurd (other (sym same.1))
  | inr apart ↦ ap (λ (b : Bool). if b then number_of row n else 0) apart.0
]

pub at_place : (row : RowValue) (p : Place) (n : ℕ) → place row ≡ p → number_at row p n ≡ number_of row n
at_place row p n here = elim (place_tells p (place row)) [
  | inl same ↦ ap (λ (b : Bool). if b then number_of row n else 0) same.0
  | inr apart ↦ absurd (apart.1 (sym here))
]

-- ---- the rows after one

below_next : (row next : RowValue) (rows : List RowValue) → Ascend (row ∷ next ∷ rows) → place_cmp (place row) (place next) ≡ Less
below_next row next rows ascend = All-head (λ y. place_cmp (place row) y ≡ Less) (place next) (map place rows) (All-after_first place_cmp (place row) (place next ∷ map place rows) ascend)

ascend_tail : (row : RowValue) (rows : List RowValue) → Ascend (row ∷ rows) → Ascend rows
ascend_tail row rows ascend = sorted_tail place_cmp (place row) (map place rows) ascend

pub rest_not_before : (p : Place) (row : RowValue) (rows : List RowValue) → Ascend (row ∷ rows) → IsNotBefore p (row ∷ rows) → IsNotBefore p rows
rest_not_before p row [] ascend first = tt
rest_not_before p row (next ∷ rows) ascend first = λ less. first (places_total.trans (place row) (place next) p (below_next row next rows ascend) less)

none_after : (row : RowValue) (rows : List RowValue) (p : Place) (n : ℕ) → Ascend (row ∷ rows) → IsNotBefore p (row ∷ rows) → by_rows rows p n ≡ 0
none_after row [] p n ascend first = refl
none_after row (next ∷ rows) p n ascend first =
    let other : place next ≢ p = λ here. first (subst (λ (q : Place). place_cmp (place row) q ≡ Less) here (below_next row next rows ascend)) in
    ap₂ (λ (a b : ℕ). a + b) (off_place next p n other)
    (none_after next rows p n (ascend_tail row (next ∷ rows) ascend) (rest_not_before p row (next ∷ rows) ascend first))

-- ---- rows from a place on

pub none_before : (rows : List RowValue) (p q : Place) (n : ℕ) → Ascend rows → IsNotBefore p rows → place_cmp q p ≡ Less → by_rows rows q n ≡ 0
none_before [] p q n ascend first less = refl
none_before (row ∷ rows) p q n ascend first less =
    let other : place row ≢ q = λ here. first (subst (λ (r : Place). place_cmp r p ≡ Less) (sym here) less) in
    ap₂ (λ (a b : ℕ). a + b) (off_place row q n other)
    (none_before rows p q n (ascend_tail row rows ascend) (rest_not_before p row rows ascend first) less)

pub all_at_first : (rows : List RowValue) (p : Place) (n : ℕ) → Ascend rows → IsNotBefore p rows → by_rows rows p n ≡ first_number rows p n
all_at_first [] p n ascend first = refl
all_at_first (row ∷ rows) p n ascend first = omega (arith, none_after row rows p n ascend first)

-- ---- the rows after the place

abbrev Rest : RowValue → List RowValue → Bool → List RowValue
Rest row rows b = if b then rows else row ∷ rows

pub after-other : (rows : List RowValue) (p q : Place) (n : ℕ) → q ≢ p → by_rows rows q n ≡ by_rows (after_place p rows) q n
after-other [] p q n other = refl
after-other (row ∷ rows) p q n other = elim (place_tells p (place row)) [
  | inl same ↦
      let gone : number_at row q n ≡ 0 = off_place row q n (λ here. other (sym here ∙ sym same.1)) in
      let added : number_at row q n + by_rows rows q n ≡ by_rows rows q n = omega (arith, gone) in
      let rest : by_rows (after_place p (row ∷ rows)) q n ≡ by_rows rows q n = ap (λ (b : Bool). by_rows (Rest row rows b) q n) same.0 in
      added ∙ sym rest
  | inr apart ↦ sym (ap (λ (b : Bool). by_rows (Rest row rows b) q n) apart.0)
]

pub after-none : (rows : List RowValue) (p : Place) (n : ℕ) → Ascend rows → IsNotBefore p rows → by_rows (after_place p rows) p n ≡ 0
after-none [] p n ascend first = refl
after-none (row ∷ rows) p n ascend first = elim (place_tells p (place row)) [
  | inl same ↦ ap (λ (b : Bool). by_rows (Rest row rows b) p n) same.0 ∙ none_after row rows p n ascend first
  | inr apart ↦
      ap (λ (b : Bool). by_rows (Rest row rows b) p n) apart.0
      ∙ ap₂ (λ (a b : ℕ). a + b) (off_place row p n (λ here. apart.1 (sym here))) (none_after row rows p n ascend first)
]

pub after-ascend : (rows : List RowValue) (p : Place) → Ascend rows → Ascend (after_place p rows)
after-ascend [] p ascend = ascend
after-ascend (row ∷ rows) p ascend = elim (place_tells p (place row)) [
  | inl same ↦ subst (λ (b : Bool). Ascend (Rest row rows b)) (sym same.0) (ascend_tail row rows ascend)
  | inr apart ↦ subst (λ (b : Bool). Ascend (Rest row rows b)) (sym apart.0) ascend
]

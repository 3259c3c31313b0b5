-- Rows that are added one after another come to the sums over those of an interval and a key.
use Rattle.std.proofs.Common.{◌≡◌, ℕ, zero, suc, ◌+◌, Bool, true, false, cond, List, [], ◌∷◌, length, get_or, All, Option, Some, None, is_none, refl, sym, ap, ◌∙◌, subst, arith}
use Rattle.std.specs.Prelude.{◌&&◌, ◌==◌, IfSome, slice_index, sum_by}
use Rattle.std.specs.Ordering.{nat_cmp, is_eq}
use Rattle.std.proofs.Math.Dec.{eqb-suc-zero}
use Rattle.std.proofs.lemmas.List.Elements.{All-head, All-tail}
use Rattle.std.proofs.lemmas.List.Sums.{sum_by-cons}
use Rattle.ipfix_elements.specs.declared.cell.Cell.{Cell}
use Rattle.flow_table.specs.AddedUp.{part_of, total_of, added_to}
use Rattle.flow_table.specs.SameTables.{RowValue}
use Rattle.flow_table.specs.Tables.{key_cmp}
use Rattle.flow_table.specs.Totals.{Total, added, joined, sum_of}
use Rattle.laws_merge.specs.RowSums.{rows_at, AreSumsOf}

-- ---- sums, place by place

added_at : (xs ys : List ℕ) (i : ℕ) → length xs ≡ length ys → get_or (added xs ys) i 0 ≡ get_or xs i 0 + get_or ys i 0
added_at [] [] i same = refl
added_at [] (y ∷ ys) i same = absurd (omega (arith, same))
added_at (x ∷ xs) [] i same = absurd (omega (arith, same))
added_at (x ∷ xs) (y ∷ ys) zero same = refl
added_at (x ∷ xs) (y ∷ ys) (suc i) same = added_at xs ys i (omega (arith, same))

length-added : (xs ys : List ℕ) → length (added xs ys) ≡ length xs
length-added [] ys = refl
length-added (x ∷ xs) [] = refl
length-added (x ∷ xs) (y ∷ ys) = ap suc (length-added xs ys)

-- ---- a row that is there, or isn't

abbrev is_at : ℕ → List Cell → RowValue → Bool
is_at k q row = is_eq (nat_cmp k row.interval) && is_eq (key_cmp q row.key)

part_by : (a b : Bool) (t : Total) → cond a (cond b (Some t) None) None ≡ cond (a && b) (Some t) None
part_by true b t = refl
part_by false b t = refl

part_is : (row : RowValue) (k : ℕ) (q : List Cell) → part_of row k q ≡ cond (is_at k q row) (Some (total_of row)) None
part_is row k q = part_by (is_eq (nat_cmp k row.interval)) (is_eq (key_cmp q row.key)) (total_of row)

-- ---- totals, and rows that are added to them

-- what is there after rows: the totals before them, and the sums over those of them that are there
record GoesOn (count : ℕ) (before : Total) (rows : List RowValue) (t : Total) : Type 0 where
  counters : length t.sums ≡ count
  sums : (i : ℕ) → slice_index t.sums i ≡ slice_index before.sums i + sum_by (λ row. slice_index row.sums i) rows
  flows : t.flows ≡ before.flows + sum_by (λ row. row.flows) rows

abbrev ComesTo : ℕ → Total → List RowValue → Option Total → Type 0
ComesTo count before rows o = (t : Total) × (o ≡ Some t) × GoesOn count before rows t

module _ (count k : ℕ) (q : List Cell) where
  goes_on : (before : Total) (rows : List RowValue) → length before.sums ≡ count → All (λ row. length row.sums ≡ count) rows → ComesTo count before (rows_at rows k q) (added_to (Some before) rows k q)
  goes_on before [] long all = (before, refl, record { counters = long; sums = λ i. omega arith; flows = omega arith })
  goes_on before (row ∷ rows) long all =
      let own : length row.sums ≡ count = All-head (λ r. length r.sums ≡ count) row rows all in
      let others = All-tail (λ r. length r.sums ≡ count) row rows all in
      subst (λ (o : Option Total). ComesTo count before (rows_at (row ∷ rows) k q) (added_to (joined (Some before) o) rows k q)) (sym (part_is row k q))
      (by own (is_at k q row) (goes_on before rows long others) (goes_on (sum_of before (total_of row)) rows (length-added before.sums row.sums ∙ long) others))
    where
      with_row : length row.sums ≡ count → ComesTo count (sum_of before (total_of row)) (rows_at rows k q) (added_to (Some (sum_of before (total_of row))) rows k q)
          → ComesTo count before (row ∷ rows_at rows k q) (added_to (Some (sum_of before (total_of row))) rows k q)
      with_row own more = (
        more.0,
        more.1,
        record {
          counters = more.2.counters;
          sums = λ i. omega (arith, more.2.sums i, added_at before.sums row.sums i (long ∙ sym own), sum_by-cons (λ (r : RowValue). slice_index r.sums i) row (rows_at rows k q));
          flows = omega (arith, more.2.flows, sum_by-cons (λ (r : RowValue). r.flows) row (rows_at rows k q));
        },
      )

      by : length row.sums ≡ count → (there : Bool) → ComesTo count before (rows_at rows k q) (added_to (Some before) rows k q)
          → ComesTo count (sum_of before (total_of row)) (rows_at rows k q) (added_to (Some (sum_of before (total_of row))) rows k q)
          → ComesTo count before (cond there (row ∷ rows_at rows k q) (rows_at rows k q)) (added_to (joined (Some before) (cond there (Some (total_of row)) None)) rows k q)
      by own true rest more = with_row own more
      by own false rest more = rest

  pub sums_there : (rows : List RowValue) → All (λ row. length row.sums ≡ count) rows → IfSome (added_to None rows k q) (AreSumsOf count (rows_at rows k q))
  sums_there [] all = tt
  sums_there (row ∷ rows) all =
      let own : length row.sums ≡ count = All-head (λ r. length r.sums ≡ count) row rows all in
      let others = All-tail (λ r. length r.sums ≡ count) row rows all in
      subst (λ (o : Option Total). IfSome (added_to (joined None o) rows k q) (AreSumsOf count (rows_at (row ∷ rows) k q))) (sym (part_is row k q))
      (by (is_at k q row) (sums_there rows others) (goes_on (total_of row) rows own others))
    where
      by : (there : Bool) → IfSome (added_to None rows k q) (AreSumsOf count (rows_at rows k q)) → ComesTo count (total_of row) (rows_at rows k q) (added_to (Some (total_of row)) rows k q)
          → IfSome (added_to (joined None (cond there (Some (total_of row)) None)) rows k q) (AreSumsOf count (cond there (row ∷ rows_at rows k q) (rows_at rows k q)))
      by true rest more =
          subst (λ (o : Option Total). IfSome o (AreSumsOf count (row ∷ rows_at rows k q))) (sym more.1)
          (record {
            counters = more.2.counters;
            sums = λ i. omega (arith, more.2.sums i, sum_by-cons (λ (r : RowValue). slice_index r.sums i) row (rows_at rows k q));
            flows = omega (arith, more.2.flows, sum_by-cons (λ (r : RowValue). r.flows) row (rows_at rows k q));
          })
      by false rest more = rest

-- ---- whether there are any

module _ (k : ℕ) (q : List Cell) where
  some_stays : (before : Total) (rows : List RowValue) → is_none (added_to (Some before) rows k q) ≡ false
  some_stays before [] = refl
  some_stays before (row ∷ rows) =
      subst (λ (o : Option Total). is_none (added_to (joined (Some before) o) rows k q) ≡ false) (sym (part_is row k q))
      (by (is_at k q row) (some_stays before rows) (some_stays (sum_of before (total_of row)) rows))
    where
      by : (there : Bool) → is_none (added_to (Some before) rows k q) ≡ false → is_none (added_to (Some (sum_of before (total_of row))) rows k q) ≡ false
          → is_none (added_to (joined (Some before) (cond there (Some (total_of row)) None)) rows k q) ≡ false
      by true rest more = more
      by false rest more = rest

  pub none_there : (rows : List RowValue) → is_none (added_to None rows k q) ≡ (length (rows_at rows k q) == 0)
  none_there [] = refl
  none_there (row ∷ rows) =
      subst (λ (o : Option Total). is_none (added_to (joined None o) rows k q) ≡ (length (rows_at (row ∷ rows) k q) == 0)) (sym (part_is row k q))
      (by (is_at k q row) (none_there rows) (some_stays (total_of row) rows))
    where
      by : (there : Bool) → is_none (added_to None rows k q) ≡ (length (rows_at rows k q) == 0) → is_none (added_to (Some (total_of row)) rows k q) ≡ false
          → is_none (added_to (joined None (cond there (Some (total_of row)) None)) rows k q) ≡ (length (cond there (row ∷ rows_at rows k q) (rows_at rows k q)) == 0)
      by true rest more = more ∙ sym (eqb-suc-zero (length (rows_at rows k q)))
      by false rest more = rest

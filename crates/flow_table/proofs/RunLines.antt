-- The lines of a run that has the numbers of a plan's rows are those of all totals.
use Rattle.std.proofs.Common.{◌≡◌, ℕ, suc, ◌<◌, List, [], ◌∷◌, length, drop, get_or, map, All, Contains, Option, Some, None, refl, sym, ap, ◌∙◌, subst, inl, inr, arith}
use Rattle.std.specs.List.{AllByRecursion}
use Rattle.std.specs.List.Sorted.{IsStrictlySortedBy}
use Rattle.std.specs.declared.cmp.Ordering.TheVariants.{Less}
use Rattle.std.proofs.lemmas.Bool.{cases_lt}
use Rattle.std.proofs.lemmas.List.Elements.{All-nil, All-cons, Contains-append_right}
use Rattle.std.proofs.lemmas.List.Sums.{sum_by-cons}
use Rattle.flow_rows.specs.Rows.{Row as FlatRow, Above, Ascends, Counted, IsRun, part, total_at, words_cmp}
use Rattle.flow_rows.proofs.Found.{total_here}
use Rattle.ipfix_elements.specs.declared.cell.Cell.{Cell}
use Rattle.flow_table.specs.Finishing.{AreLinesFrom, AreLinesOf, Line, line_cmp, line_from}
use Rattle.flow_table.specs.Plans.{PlanValue}
use Rattle.flow_table.specs.Rows.{AreRowsOf, IsPlace, kept_at, kept_by, number_at, total_of_numbers, width_of}
use Rattle.flow_table.specs.Tables.{place_cmp}
use Rattle.flow_table.specs.Totals.{Total}
use Rattle.flow_table.specs.Words.{key_from, padded, place_words}
use Rattle.flow_table.specs.declared.rows.Rows.{Rows}
use Rattle.flow_table.proofs.Kept.{interval_back, key_of_place, numbers_some, numbers_none, own_or_none, place_same, total_same, words_rank}

parts_of_run : (xs : List FlatRow) → IsRun xs → Ascends xs × Counted xs
unfolding IsRun
parts_of_run xs h = h

module _ (plan : PlanValue) (rows : Rows) (of : AreRowsOf plan rows) where
  abbrev n0 : ℕ
  n0 = length plan.counters

  abbrev line : FlatRow → Line
  line = line_from plan.kinds n0

  -- a row of a place, with the numbers that the rows have there, some flow among them
  record IsLine (x : FlatRow) : Type 0 where
    place : IsPlace plan rows x.key
    some : 0 < get_or x.numbers 0 0
    numbers : (i : ℕ) → number_at rows x.key i ≡ get_or x.numbers i 0

  abbrev AreLines : List FlatRow → Type 0
  AreLines [] = Unit {0}
  AreLines (x ∷ xs) = IsLine x × AreLines xs

  place_is : (x : FlatRow) (p : IsPlace plan rows x.key) → (line x).0 ≡ (p.interval, p.key)
  place_is x p =
      ap (λ (q : List ℕ). (get_or q 0 0, key_from plan.kinds (drop 1 q))) p.padded_are
      ∙ place_same (get_or (padded (width_of rows) p.words) 0 0) p.interval (key_from plan.kinds (drop 1 (padded (width_of rows) p.words))) p.key
      (interval_back plan (width_of rows) p.interval p.key p.words of.wide p.are) (key_of_place plan (width_of rows) p.interval p.key p.words of.wide p.are)

  kept_of : (k : ℕ) (q : List Cell) (ws : List ℕ) → place_words plan k q ≡ Some ws → kept_at plan rows k q ≡ total_of_numbers n0 (number_at rows (padded (width_of rows) ws))
  unfolding kept_at
  kept_of k q ws h = ap (kept_by plan rows) h

  own : (x : FlatRow) → IsLine x → kept_at plan rows (line x).0.0 (line x).0.1 ≡ Some (line x).1
  own x is =
      let p = is.place in
      ap (λ (z : ℕ × List Cell). kept_at plan rows z.0 z.1) (place_is x p) ∙ kept_of p.interval p.key p.words p.are
      ∙ ap (λ (q : List ℕ). total_of_numbers n0 (number_at rows q)) (sym p.padded_are)
      ∙ total_same n0 (number_at rows x.key) (λ i. get_or x.numbers i 0) is.numbers
      ∙ numbers_some n0 (λ i. get_or x.numbers i 0) is.some

  all_own : (xs : List FlatRow) → AreLines xs → All (λ l. kept_at plan rows l.0.0 l.0.1 ≡ Some l.1) (map line xs)
  all_own [] are = All-nil (λ l. kept_at plan rows l.0.0 l.0.1 ≡ Some l.1)
  all_own (x ∷ xs) are = All-cons (λ l. kept_at plan rows l.0.0 l.0.1 ≡ Some l.1) (line x) (map line xs) (own x are.0) (all_own xs are.1)

  rank : (x y : FlatRow) → IsLine x → IsLine y → line_cmp (line x) (line y) ≡ words_cmp x.key y.key
  rank x y is it =
      let p = is.place in
      let r = it.place in
      ap (λ (z : ℕ × List Cell). place_cmp z (line y).0) (place_is x p) ∙ ap (λ (z : ℕ × List Cell). place_cmp (p.interval, p.key) z) (place_is y r)
      ∙ sym (words_rank plan (width_of rows) p.interval r.interval p.key r.key p.words r.words of.wide p.are r.are)
      ∙ ap (λ (q : List ℕ). words_cmp q (padded (width_of rows) r.words)) (sym p.padded_are) ∙ ap (λ (q : List ℕ). words_cmp x.key q) (sym r.padded_are)

  below : (x : FlatRow) (xs : List FlatRow) → IsLine x → AreLines xs → Above x.key xs → AllByRecursion (λ l. line_cmp (line x) l ≡ Less) (map line xs)
  below x [] is are a = tt
  below x (y ∷ ys) is are a = (rank x y is are.0 ∙ a.0, below x ys is are.1 a.1)

  sorted : (xs : List FlatRow) → AreLines xs → Ascends xs → IsStrictlySortedBy line_cmp (map line xs)
  unfolding IsStrictlySortedBy
  sorted [] are a = tt
  sorted (x ∷ xs) are a = (below x xs are.0 are.1 a.0, sorted xs are.1 a.1)

  there : (k : ℕ) (q : List Cell) (ws : List ℕ) (xs : List FlatRow) → place_words plan k q ≡ Some ws → AreLines xs → 0 < total_at xs (padded (width_of rows) ws) 0 → Contains (map (λ l. l.0) (map line xs)) (k, q)
  there k q ws [] h are some = absurd (omega arith)
  there k q ws (x ∷ xs) h are some =
      elim (own_or_none (padded (width_of rows) ws) x) [
        | inl none ↦ Contains-append_right ((line x).0 ∷ []) (map (λ l. l.0) (map line xs)) (k, q)
            (there k q ws xs h are.1 (omega (arith, sum_by-cons (part (padded (width_of rows) ws) 0) x xs, none 0)))
        | inr same ↦ (0, omega arith, place_is x (record { interval = k; key = q; words = ws; are = h; padded_are = same }))
      ]

  line_is : (x : FlatRow) → 0 < get_or x.numbers 0 0 → ((i : ℕ) → number_at rows x.key i ≡ get_or x.numbers i 0) → IsLine x
  line_is x some numbers = record { place = of.places x.key (omega (arith, numbers 0)); some = some; numbers = numbers }

  lines_by : (xs : List FlatRow) → ((n : ℕ) (d : FlatRow) → n < length xs → IsLine (get_or xs n d)) → AreLines xs
  lines_by [] h = tt
  lines_by (x ∷ xs) h = (h 0 x (omega arith), lines_by xs (λ n d l. h (suc n) d (omega arith)))

  run_lines : (xs : List FlatRow) → Ascends xs → Counted xs → ((q : List ℕ) (i : ℕ) → total_at xs q i ≡ number_at rows q i) → AreLines xs
  run_lines xs a c same =
      lines_by xs (λ n d l. line_is (get_or xs n d) (c n d l) (λ i. sym (same (get_or xs n d).key i) ∙ total_here xs n d i l a))

  found : (k : ℕ) (q : List Cell) (t : Total) (xs : List FlatRow) → AreLines xs → ((w : List ℕ) (i : ℕ) → total_at xs w i ≡ number_at rows w i) → (o : Option (List ℕ)) → place_words plan k q ≡ o → kept_by plan rows o ≡ Some t
      → Contains (map (λ l. l.0) (map line xs)) (k, q)
  found k q t xs are same None h is = absurd cc
  found k q t xs are same (Some ws) h is =
      elim (cases_lt 0 (number_at rows (padded (width_of rows) ws) 0)) [
        | inl some ↦ there k q ws xs h are (omega (arith, same (padded (width_of rows) ws) 0))
        | inr none ↦ absurd (let e : None ≡ Some t = sym (numbers_none n0 (number_at rows (padded (width_of rows) ws)) (omega arith)) ∙ is in cc)
      ]

  found_at : (k : ℕ) (q : List Cell) (t : Total) (xs : List FlatRow) → AreLines xs → ((w : List ℕ) (i : ℕ) → total_at xs w i ≡ number_at rows w i) → kept_at plan rows k q ≡ Some t → Contains (map (λ l. l.0) (map line xs)) (k, q)
  unfolding kept_at
  found_at k q t xs are same is = found k q t xs are same (place_words plan k q) refl is

  run_lines_of : (xs : List FlatRow) → IsRun xs → ((q : List ℕ) (i : ℕ) → total_at xs q i ≡ number_at rows q i) → AreLinesOf (kept_at plan rows) (map line xs)
  run_lines_of xs run same =
      let parts = parts_of_run xs run in
      let are = run_lines xs parts.0 parts.1 same in
      record {
        ascend = sorted xs are parts.0;
        own = all_own xs are;
        complete = λ k q t is. found_at k q t xs are same is;
      }

  pub lines_of : (lines : List Line) → AreLinesFrom plan rows lines → AreLinesOf (kept_at plan rows) lines
  lines_of lines are = subst (AreLinesOf (kept_at plan rows)) (sym are.are) (run_lines_of are.run are.ascends are.same)

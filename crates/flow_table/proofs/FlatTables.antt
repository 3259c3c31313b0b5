-- The rows that a flat table shows, and tables with the same rows.
use Rattle.std.proofs.Common.{◌≡◌, ◌≤◌, ℕ, zero, suc, ◌+◌, ◌*◌, ◌^◌, ◌-◌, ◌<◌, List, [], ◌∷◌, ◌++◌, length, map, take, drop, get_or, All, Contains, refl, sym, ap, ◌∙◌, subst, take_all, arith}
use Rattle.std.specs.Global.{Global}
use Rattle.std.specs.List.Sorted.{IsStrictlySortedBy}
use Rattle.std.proofs.lemmas.List.{length-map, map-append, take_more}
use Rattle.std.proofs.lemmas.List.Elements.{All-nil, All-cons, All-head, All-tail}
use Rattle.flow_rows.specs.Rows.{Row as FlatRow, IsRun, row as flat_row, total_at}
use Rattle.ipfix_elements.specs.declared.cell.Cell.{Cell}
use Rattle.ipfix_elements.specs.declared.kind.Kind.{Kind}
use Rattle.ipfix_message.specs.declared.record.DataRecord.{DataRecord}
use Rattle.flow_table.specs.AddedUp.{place, rows_in as rows_of}
use Rattle.flow_table.specs.Finishing.{AreRunLines, Line, line_from, line_of}
use Rattle.flow_table.specs.Fitting.{FitsKeys, FitsPlan, FitsRow}
use Rattle.flow_table.specs.FlatTables.{row_of, run_in, run_values, table_of, value_from}
use Rattle.flow_table.specs.Plans.{PlanValue}
use Rattle.flow_table.specs.SameTables.{IsSameTable, RowValue, row_value, value_of}
use Rattle.flow_table.specs.Tables.{flows_at, place_of, place_cmp, sum_at, IsRow, IsTable}
use Rattle.flow_table.specs.Totals.{total}
use Rattle.flow_table.specs.Vectors.{vec_of}
use Rattle.flow_table.specs.Words.{first_of, key_from, plain_from, shorts, unpack, words_of_kind}
use Rattle.flow_table.specs.declared.flat_table.FlatTable.TheInside.{Inside}
use Rattle.flow_table.specs.declared.run.Run.{Run}
use Rattle.flow_table.specs.declared.run.Run.TheVariants.{Two, Four, Six, Nine, Most}
use Rattle.flow_table.specs.declared.table.Row.{Row}
use Rattle.flow_table.specs.declared.table.Table.{Table}
use Rattle.flow_table.proofs.RowsHeld.{places_of_values}

items_of : {X : Type 0} (alloc : Global) (xs : List X) → length xs < 2 ^ 63 → (vec_of alloc xs).items ≡ xs
unfolding vec_of
items_of alloc xs few = take_all (2 ^ 63 - 1) xs (omega arith)

plain_length : (kinds : List Kind) (ws : List ℕ) → length (plain_from kinds ws) ≡ length kinds
plain_length [] ws = refl
plain_length (kind ∷ kinds) ws = ap suc (plain_length kinds (drop (words_of_kind kind) ws))

key_length : (kinds : List Kind) (ws : List ℕ) → length (key_from kinds ws) ≡ length kinds
key_length kinds ws = plain_length kinds (unpack (shorts kinds) ws)

sums_length : (n : ℕ) (f : ℕ → ℕ) → length (first_of n f) ≡ n
sums_length zero f = refl
sums_length (suc n) f = ap suc (sums_length n (λ i. f (suc i)))

run_small : (run : Run) → length (run_in run) < 2 ^ 63
run_small (Two rows) = omega (arith, rows.ok.0, rows.ok.1, rows.small)
run_small (Four rows) = omega (arith, rows.ok.0, rows.ok.1, rows.small)
run_small (Six rows) = omega (arith, rows.ok.0, rows.ok.1, rows.small)
run_small (Nine rows) = omega (arith, rows.ok.0, rows.ok.1, rows.small)
run_small (Most rows) = omega (arith, rows.ok.0, rows.ok.1, rows.small)

get_map : {X Y : Type 0} (f : X → Y) (xs : List X) (i : ℕ) (d : Y) (x : X) → i < length xs → get_or (map f xs) i d ≡ f (get_or xs i x)
get_map f [] i d x within = absurd (omega arith)
get_map f (y ∷ ys) zero d x within = refl
get_map f (y ∷ ys) (suc i) d x within = get_map f ys i d x (omega arith)

-- ---- what a flat table shows

module _ (t : Inside) (few : t.counters < 2 ^ 63) where
  abbrev value : FlatRow → RowValue
  value = value_from t.kinds.items t.counters

  abbrev table : Table
  table = table_of t.alloc (run_values t.kinds.items t.counters t.run) t.tally t.missing

  value_back : (x : FlatRow) → value_of (row_of t.alloc (value x)) ≡ value x
  value_back x =
      let v = value x in
      ap (λ (key : List Cell). row_value v.interval key (vec_of t.alloc v.sums).items v.flows)
      (items_of t.alloc v.key (omega (arith, key_length t.kinds.items (drop 1 x.key), t.kinds.ok.0, t.kinds.ok.1, t.kinds.small)))
      ∙ ap (λ (sums : List ℕ). row_value v.interval v.key sums v.flows)
      (items_of t.alloc v.sums (omega (arith, sums_length t.counters (λ i. get_or x.numbers (suc i) 0))))

  values_back : (xs : List FlatRow) → map value_of (map (row_of t.alloc) (map value xs)) ≡ map value xs
  values_back [] = refl
  values_back (x ∷ xs) =
      ap (λ (v : RowValue). v ∷ map value_of (map (row_of t.alloc) (map value xs))) (value_back x)
      ∙ ap (λ (vs : List RowValue). value x ∷ vs) (values_back xs)

  rows_shown : rows_of table ≡ map value (run_in t.run)
  rows_shown =
      ap (map value_of) (items_of t.alloc (map (row_of t.alloc) (map value (run_in t.run)))
      (omega (arith, run_small t.run, length-map (map value (run_in t.run)) (row_of t.alloc), length-map (run_in t.run) value)))
      ∙ values_back (run_in t.run)

  pub length_shown : length table.rows.items ≡ length (run_in t.run)
  length_shown = sym (length-map table.rows.items value_of) ∙ ap length rows_shown ∙ length-map (run_in t.run) value

  pub row_shown : (i : ℕ) (row : Row) → i < length (run_in t.run) → ((x : FlatRow) → value_of row ≡ value (get_or (run_in t.run) i x)) → (d : RowValue) → value_of row ≡ get_or (rows_of table) i d
  row_shown i row within is d =
      let none : FlatRow = flat_row [] [] in
      is none ∙ sym (get_map value (run_in t.run) i d none within) ∙ ap (λ (vs : List RowValue). get_or vs i d) (sym rows_shown)

  -- ---- its lines

  abbrev line_by : RowValue → Line
  line_by v = (place v, total v.sums v.flows)

  lines_by_values : (rows : List Row) → map line_of rows ≡ map line_by (map value_of rows)
  lines_by_values [] = refl
  lines_by_values (row ∷ rows) = ap (λ (ls : List Line). line_of row ∷ ls) (lines_by_values rows)

  lines_of_values : (xs : List FlatRow) → map line_by (map value xs) ≡ map (line_from t.kinds.items t.counters) xs
  lines_of_values [] = refl
  lines_of_values (x ∷ xs) = ap (λ (ls : List Line). line_from t.kinds.items t.counters x ∷ ls) (lines_of_values xs)

  pub lines_shown : (rows : List FlatRow) → IsRun (run_in t.run) → ((q : List ℕ) (i : ℕ) → total_at (run_in t.run) q i ≡ total_at rows q i) → AreRunLines t.kinds.items t.counters rows (map line_of table.rows.items)
  lines_shown rows ascends same =
      record {
        run = run_in t.run;
        ascends = ascends;
        same = same;
        are = lines_by_values table.rows.items ∙ ap (map line_by) rows_shown ∙ lines_of_values (run_in t.run);
      }

-- ---- rows of the same value

abbrev FitsValue : PlanValue → RowValue → Type 0
FitsValue plan v = (v.interval * plan.length < 2 ^ 50) × FitsKeys plan v.key × (length v.sums ≡ length plan.counters) × All (λ sum. sum < 2 ^ 64) v.sums × (v.flows < 2 ^ 64)

fits_by_value : (plan : PlanValue) (a b : Row) → value_of a ≡ value_of b → FitsRow plan a → FitsRow plan b
fits_by_value plan a b same h =
    let v = subst (FitsValue plan) same (h.interval, h.key, h.sums, h.small, h.few) in
    record { interval = v.0; key = v.1; sums = v.2; small = v.3; few = v.4 }

abbrev IsValue : PlanValue → List DataRecord → RowValue → Type 0
IsValue plan rs v = (0 < flows_at plan rs v.interval v.key) × (v.sums ≡ map (sum_at plan rs v.interval v.key) plan.counters) × (v.flows ≡ flows_at plan rs v.interval v.key)

is_by_value : (plan : PlanValue) (rs : List DataRecord) (a b : Row) → value_of a ≡ value_of b → IsRow plan rs a → IsRow plan rs b
is_by_value plan rs a b same h =
    let v = subst (IsValue plan rs) same (h.some, h.sums, h.flows) in
    record { some = v.0; sums = v.1; flows = v.2 }

all_by_values : (P : Row → Type 0) → ((a b : Row) → value_of a ≡ value_of b → P a → P b) → (xs ys : List Row) → map value_of xs ≡ map value_of ys → All P xs → All P ys
all_by_values P by [] [] same h = All-nil P
all_by_values P by [] (y ∷ ys) same h = absurd cc
all_by_values P by (x ∷ xs) [] same h = absurd cc
all_by_values P by (x ∷ xs) (y ∷ ys) same h =
    let first : value_of x ≡ value_of y = cc in
    let others : map value_of xs ≡ map value_of ys = cc in
    All-cons P y ys (by x y first (All-head P x xs h)) (all_by_values P by xs ys others (All-tail P x xs h))

-- a row of a table that fits a plan fits it
pub row_fits : (plan : PlanValue) (table : Table) (i : ℕ) (row : Row) → i < length table.rows.items → ((d : RowValue) → value_of row ≡ get_or (rows_of table) i d) → FitsPlan plan table → FitsRow plan row
row_fits plan table i row within is fits =
    fits_by_value plan (get_or table.rows.items i row) row
    (sym (is (value_of row) ∙ get_map value_of table.rows.items i (value_of row) row within)) (fits.rows i row within)

-- ---- the same tables

same_places : (t u : Table) → IsSameTable t u → map place_of t.rows.items ≡ map place_of u.rows.items
same_places t u same = sym (places_of_values t.rows.items) ∙ ap (map place) same.rows ∙ places_of_values u.rows.items

pub is_same_table : (plan : PlanValue) (rs : List DataRecord) (t u : Table) → IsSameTable t u → IsTable plan rs t → IsTable plan rs u
is_same_table plan rs t u same h =
    record {
      ascending = subst (IsStrictlySortedBy place_cmp) (same_places t u same) h.ascending;
      rows = all_by_values (IsRow plan rs) (is_by_value plan rs) t.rows.items u.rows.items same.rows h.rows;
      complete = λ k q some. subst (λ (ps : List (ℕ × List Cell)). Contains ps (k, q)) (same_places t u same) (h.complete k q some);
      tally = sym same.tally ∙ h.tally;
      missing = sym same.missing ∙ h.missing;
    }

pub fits_same_table : (plan : PlanValue) (t u : Table) → IsSameTable t u → FitsPlan plan t → FitsPlan plan u
fits_same_table plan t u same h =
    record {
      ascending = subst (IsStrictlySortedBy place_cmp) (same_places t u same) h.ascending;
      rows = all_by_values (FitsRow plan) (fits_by_value plan) t.rows.items u.rows.items same.rows h.rows;
    }

-- ---- all rows, one after another

pub row_step : (table : Table) (i : ℕ) (old new : List Row) (row : Row) → i < length table.rows.items → map value_of old ≡ take i (rows_of table) → ((d : RowValue) → value_of row ≡ get_or (rows_of table) i d) → new ≡ old ++ row ∷ []
    → map value_of new ≡ take (i + 1) (rows_of table)
row_step table i old new row within before is next =
    ap (map value_of) next ∙ map-append value_of old (row ∷ [])
    ∙ ap (λ (vs : List RowValue). vs ++ value_of row ∷ []) before
    ∙ ap (λ (v : RowValue). take i (rows_of table) ++ v ∷ []) (is (value_of row))
    ∙ sym (take_more (rows_of table) i (value_of row) (omega (arith, length-map table.rows.items value_of)))

pub rows_done : (table : Table) (i : ℕ) (rows : List Row) → length table.rows.items ≤ i → map value_of rows ≡ take i (rows_of table) → map value_of rows ≡ rows_of table
rows_done table i rows done before = before ∙ take_all i (rows_of table) (omega (arith, length-map table.rows.items value_of))

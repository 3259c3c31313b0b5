-- The rows of all exporters at an interval and a key add up to what is there without the exporter.
use Rattle.std.proofs.Common.{◌≡◌, ◌≢◌, ◌⊎◌, ℕ, zero, suc, ◌+◌, ◌<◌, Bool, true, false, cond, List, [], ◌∷◌, length, map, All, Option, Some, None, is_none, option_map, option_and_then, refl, sym, ap, ap₂, subst, ◌∙◌, arith, inl, inr}
use Rattle.std.specs.Prelude.{◌&&◌, filter, sum_by, slice_index, nat_lt, nat_eq}
use Rattle.std.specs.List.{list_any}
use Rattle.std.specs.Cmp.{eq_by_cmp_equiv}
use Rattle.std.specs.List.Sorted.{IsStrictlySortedBy}
use Rattle.std.specs.Ordering.{nat_cmp, ordering_then, is_eq}
use Rattle.std.specs.declared.cmp.Ordering.{Ordering}
use Rattle.std.specs.declared.cmp.Ordering.TheVariants.{Less, Equal, Greater}
use Rattle.std.proofs.lemmas.Bool.{false≢true}
use Rattle.std.proofs.lemmas.List.{length-map}
use Rattle.std.proofs.lemmas.List.Elements.{All-head, All-nil, All-cons, All-tail, All-weaker}
use Rattle.std.proofs.lemmas.List.Sums.{sum_by-cons}
use Rattle.std.proofs.lemmas.Map.Keys.{sorted_tail}
use Rattle.ipfix_wire.specs.declared.specifier.ElementId.{ElementId}
use Rattle.ipfix_elements.specs.declared.cell.Cell.{Cell}
use Rattle.ipfix_elements.specs.declared.kind.Kind.TheVariants as kinds
use Rattle.ipfix_elements.specs.Cells.{cell_cmp}
use Rattle.ipfix_elements.proofs.CellLemmas.{cell_equal, cell_cmp-total}
use Rattle.ipfix_message.specs.declared.record.DataRecord.{DataRecord}
use Rattle.flow_table.specs.declared.class.Class.{Class}
use Rattle.flow_table.specs.declared.class.Class.TheVariants as classes
use Rattle.flow_table.specs.declared.table.Row.{Row}
use Rattle.flow_table.specs.declared.table.Table.{Table}
use Rattle.flow_table.specs.AddedUp.{place, rows_in}
use Rattle.flow_table.specs.Intervals.{covers}
use Rattle.flow_table.specs.Plans.{PlanValue}
use Rattle.flow_table.specs.Reading.{cell_of, class_of, flow_class, is_class, is_too_long, key_of, start_of, end_of}
use Rattle.flow_table.specs.Rows.{is_same_key}
use Rattle.flow_table.specs.SameTables.{RowValue, value_of}
use Rattle.flow_table.specs.Tables.{IsRow, IsTable, begin_of, finish_of, contributes, flows_at, is_key, key_cmp, place_cmp, place_of, share_of, sum_at}
use Rattle.flow_table.specs.Totals.{total}
use Rattle.flow_table.proofs.AddedUp.{not_later}
use Rattle.flow_table.proofs.Keyed.{itself}
use Rattle.flow_table.proofs.OneTable.{Among, among}
use Rattle.flow_table.proofs.Places.{intervals_tell, keys_tell}
use Rattle.flow_table.proofs.RowsHeld.{places_of_values}
use Rattle.laws_merge.specs.ByExporter.{by_exporter, exporter_key, goes_on, HasExporter, rows_of_all}
use Rattle.laws_merge.specs.RowSums.{AreSumsOf}

-- ---- sums

sum_same : {X : Type 0} (f g : X → ℕ) → ((x : X) → f x ≡ g x) → (xs : List X) → sum_by f xs ≡ sum_by g xs
sum_same f g same [] = refl
sum_same f g same (x ∷ xs) = sum_by-cons f x xs ∙ ap₂ (λ (a b : ℕ). a + b) (same x) (sum_same f g same xs) ∙ sym (sum_by-cons g x xs)

sum_on : {X : Type 0} (f g : X → ℕ) (xs : List X) → All (λ x. f x ≡ g x) xs → sum_by f xs ≡ sum_by g xs
sum_on f g [] all = refl
sum_on f g (x ∷ xs) all =
    sum_by-cons f x xs ∙ ap₂ (λ (a b : ℕ). a + b) (All-head (λ y. f y ≡ g y) x xs all) (sum_on f g xs (All-tail (λ y. f y ≡ g y) x xs all)) ∙ sym (sum_by-cons g x xs)

sum_none : {X : Type 0} (xs : List X) → sum_by (λ x. 0) xs ≡ 0
sum_none [] = refl
sum_none (x ∷ xs) = sum_by-cons (λ y. 0) x xs ∙ ap (λ (n : ℕ). 0 + n) (sum_none xs)

sum_both : {X : Type 0} (f g : X → ℕ) (xs : List X) → sum_by (λ x. f x + g x) xs ≡ sum_by f xs + sum_by g xs
sum_both f g [] = refl
sum_both f g (x ∷ xs) = omega (arith, sum_by-cons (λ y. f y + g y) x xs, sum_by-cons f x xs, sum_by-cons g x xs, sum_both f g xs)

-- of those that pass a test
kept_more : {X : Type 0} (f : X → ℕ) (b : Bool) (x : X) (xs : List X) → sum_by f (cond b (x ∷ xs) xs) ≡ cond b (f x) 0 + sum_by f xs
kept_more f true x xs = sum_by-cons f x xs
kept_more f false x xs = omega arith

sum_kept : {X : Type 0} (f : X → ℕ) (t : X → Bool) (xs : List X) → sum_by f (filter t xs) ≡ sum_by (λ x. cond (t x) (f x) 0) xs
sum_kept f t [] = refl
sum_kept f t (x ∷ xs) =
    kept_more f (t x) x (filter t xs) ∙ ap (λ (n : ℕ). cond (t x) (f x) 0 + n) (sum_kept f t xs) ∙ sym (sum_by-cons (λ y. cond (t y) (f y) 0) x xs)

length-sum : {X : Type 0} (xs : List X) → length xs ≡ sum_by (λ x. 1) xs
length-sum [] = refl
length-sum (x ∷ xs) = omega (arith, length-sum xs, sum_by-cons (λ y. 1) x xs)

some_kept : {X : Type 0} (t : X → Bool) (xs : List X) (x : X) → Among xs x → t x ≡ true → 0 < length (filter t xs)
some_kept t [] x among passes = absurd among
some_kept t (y ∷ ys) x (inl here) passes = rw (ap t here ∙ passes) (omega arith)
some_kept t (y ∷ ys) x (inr later) passes = by (t y) (some_kept t ys x later passes)
  where
    by : (b : Bool) → 0 < length (filter t ys) → 0 < length (cond b (y ∷ filter t ys) (filter t ys))
    by true some = omega arith
    by false some = some

-- ---- tests

then_eq : (a b : Ordering) → is_eq (ordering_then a b) ≡ (is_eq a && is_eq b)
then_eq Less b = refl
then_eq Equal b = refl
then_eq Greater b = refl

equal_from : (o : Ordering) → is_eq o ≡ true → o ≡ Equal
equal_from Less same = cc
equal_from Equal same = refl
equal_from Greater same = cc

cell_itself : (c : Cell) → is_eq (cell_cmp c c) ≡ true
cell_itself c = (eq_by_cmp_equiv cell_cmp-total).refl c

cells_tell : (a b : Cell) → ((is_eq (cell_cmp a b) ≡ true) × (a ≡ b)) ⊎ ((is_eq (cell_cmp a b) ≡ false) × (a ≢ b))
cells_tell a b = by (is_eq (cell_cmp a b)) refl
  where
    by : (t : Bool) → is_eq (cell_cmp a b) ≡ t → ((is_eq (cell_cmp a b) ≡ true) × (a ≡ b)) ⊎ ((is_eq (cell_cmp a b) ≡ false) × (a ≢ b))
    by true same = inl (same, cell_equal a b (equal_from (cell_cmp a b) same))
    by false other = inr (other, λ (alike : a ≡ b). false≢true (sym (subst (λ (x : Cell). is_eq (cell_cmp a x) ≡ false) (sym alike) other) ∙ cell_itself a))

cells_turn : (c d : Cell) → is_eq (cell_cmp d c) ≡ is_eq (cell_cmp c d)
cells_turn c d = elim (cells_tell d c) [
  | inl same ↦ same.0 ∙ sym (subst (λ (x : Cell). is_eq (cell_cmp c x) ≡ true) (sym same.1) (cell_itself c))
  | inr other ↦ elim (cells_tell c d) [
    | inl turned ↦ absurd (other.1 (sym turned.1))
    | inr still ↦ other.0 ∙ sym still.0
  ]
]

both_and : (i e p : Bool) (w : ℕ) → cond (i && true) (cond (e && p) w 0) 0 ≡ cond p (cond (i && (e && true)) w 0) 0
both_and true true true w = refl
both_and true true false w = refl
both_and true false true w = refl
both_and true false false w = refl
both_and false true true w = refl
both_and false true false w = refl
both_and false false true w = refl
both_and false false false w = refl

neither_and : (i e p : Bool) (x w : ℕ) → cond (i && false) x 0 ≡ cond p (cond (i && (e && false)) w 0) 0
neither_and true true true x w = refl
neither_and true true false x w = refl
neither_and true false true x w = refl
neither_and true false false x w = refl
neither_and false true true x w = refl
neither_and false true false x w = refl
neither_and false false true x w = refl
neither_and false false false x w = refl

shuffled : (x y z : Bool) → (x && (y && z)) ≡ (y && (x && z))
shuffled true true z = refl
shuffled true false z = refl
shuffled false true z = refl
shuffled false false z = refl

and_none : (b : Bool) → (b && false) ≡ false
and_none true = refl
and_none false = refl

-- ---- rows at a place

abbrev is_at : ℕ → List Cell → RowValue → Bool
is_at k q row = is_eq (nat_cmp k row.interval) && is_eq (key_cmp q row.key)

at_place : (row : RowValue) (k : ℕ) (q : List Cell) → place row ≡ (k, q) → is_at k q row ≡ true
at_place row k q here =
    subst (λ (z : ℕ × List Cell). is_at z.0 z.1 row ≡ true) here
    (ap₂ (λ (a b : Bool). a && b) (itself (λ (a b : ℕ). is_eq (nat_cmp a b)) intervals_tell row.interval) (itself is_same_key keys_tell row.key))

off_place : (row : RowValue) (k : ℕ) (q : List Cell) → place row ≢ (k, q) → is_at k q row ≡ false
off_place row k q other = elim (intervals_tell k row.interval) [
  | inl same ↦ elim (keys_tell q row.key) [
    | inl alike ↦ absurd (other (ap₂ (λ (a : ℕ) (b : List Cell). (a, b)) (sym same.1) (sym alike.1)))
    | inr differs ↦ ap₂ (λ (a b : Bool). a && b) same.0 differs.0
  ]
  | inr apart ↦ ap (λ (a : Bool). a && is_eq (key_cmp q row.key)) apart.0
]

no_row : (k : ℕ) (q : List Cell) (w : ℕ) (rows : List RowValue) → (Among (map place rows) (k, q) → ⊥) → sum_by (λ row. cond (is_at k q row) w 0) rows ≡ 0
no_row k q w [] none = refl
no_row k q w (row ∷ rows) none =
    sum_by-cons (λ r. cond (is_at k q r) w 0) row rows
    ∙ ap₂ (λ (b : Bool) (n : ℕ). cond b w 0 + n) (off_place row k q (λ here. none (inl here))) (no_row k q w rows (λ later. none (inr later)))

one_row : (k : ℕ) (q : List Cell) (w : ℕ) (rows : List RowValue) → IsStrictlySortedBy place_cmp (map place rows) → Among (map place rows) (k, q) → sum_by (λ row. cond (is_at k q row) w 0) rows ≡ w
one_row k q w [] sorted there = absurd there
one_row k q w (row ∷ rows) sorted (inl here) =
    let later : Among (map place rows) (k, q) → ⊥ = λ h. not_later row rows sorted (subst (Among (map place rows)) (sym here) h) in
    let rest = no_row k q w rows later in
    sum_by-cons (λ r. cond (is_at k q r) w 0) row rows ∙ ap₂ (λ (b : Bool) (n : ℕ). cond b w 0 + n) (at_place row k q here) rest ∙ omega arith
one_row k q w (row ∷ rows) sorted (inr later) =
    let other : place row ≢ (k, q) = λ here. not_later row rows sorted (subst (Among (map place rows)) (sym here) later) in
    sum_by-cons (λ r. cond (is_at k q r) w 0) row rows
    ∙ ap₂ (λ (b : Bool) (n : ℕ). cond b w 0 + n) (off_place row k q other) (one_row k q w rows (sorted_tail place_cmp (place row) (map place rows) sorted) later) ∙ omega arith

-- ---- a record

none_same : {A B : Type 0} (f : A → B) (o : Option A) → is_none (option_map f o) ≡ is_none o
none_same f None = refl
none_same f (Some x) = refl

key_matches : (c d : Cell) (q : List Cell) (o : Option (List Cell)) → is_key (d ∷ q) (option_map (λ cells. c ∷ cells) o) ≡ (is_eq (cell_cmp d c) && is_key q o)
key_matches c d q None = sym (and_none (is_eq (cell_cmp d c)))
key_matches c d q (Some found) = then_eq (cell_cmp d c) (key_cmp q found)

module _ (plan : PlanValue) (k : ℕ) (key : List Cell) where
  key_with : (r : DataRecord) (c : Cell) → cell_of exporter_key kinds.Ipv6 r ≡ Some c → key_of (by_exporter plan) r ≡ option_map (λ cells. c ∷ cells) (key_of plan r)
  key_with r c is = ap (λ (o : Option Cell). option_and_then (λ cell. option_map (λ cells. cell ∷ cells) (key_of plan r)) o) is

  flow_with : (r : DataRecord) (c : Cell) (s e : Option ℕ) → cell_of exporter_key kinds.Ipv6 r ≡ Some c → flow_class (by_exporter plan) r s e ≡ flow_class plan r s e
  flow_with r c None e is = refl
  flow_with r c (Some s) None is = refl
  flow_with r c (Some s) (Some e) is =
      ap (λ (b : Bool). cond (nat_lt e s) classes.Backward (cond b classes.Unkeyed (cond (is_too_long plan s e) classes.TooLong classes.Used)))
      (ap is_none (key_with r c is) ∙ none_same (λ (cells : List Cell). c ∷ cells) (key_of plan r))

  class_with : (r : DataRecord) (c : Cell) → cell_of exporter_key kinds.Ipv6 r ≡ Some c → class_of (by_exporter plan) r ≡ class_of plan r
  class_with r c is = ap (λ (class : Class). cond (nat_lt 0 r.scope) classes.Options class) (flow_with r c (start_of plan.choices.times r) (end_of plan.choices.times r) is)

  contributes_with : (r : DataRecord) (c d : Cell) → cell_of exporter_key kinds.Ipv6 r ≡ Some c → contributes (by_exporter plan) k (d ∷ key) r ≡ (is_eq (cell_cmp d c) && contributes plan k key r)
  unfolding contributes
  contributes_with r c d is =
      let covered = list_any (nat_eq k) (covers plan (begin_of plan r) (finish_of plan r)) in
      ap₂ (λ (class : Class) (found : Option (List Cell)). is_class classes.Used class && covered && is_key (d ∷ key) found) (class_with r c is) (key_with r c is)
      ∙ ap (λ (b : Bool). is_class classes.Used (class_of plan r) && covered && b) (key_matches c d key (key_of plan r))
      ∙ shuffled (is_class classes.Used (class_of plan r) && covered) (is_eq (cell_cmp d c)) (is_key key (key_of plan r))

  abbrev is_of_all : RowValue → Bool
  is_of_all row = is_eq (nat_cmp k row.interval) && goes_on key row.key

  -- what a record adds to a row, if that is one of the key
  cells_term : (r : DataRecord) (c : Cell) → cell_of exporter_key kinds.Ipv6 r ≡ Some c → (w : ℕ) (i : Bool) (cells : List Cell)
      → cond (i && goes_on key cells) (cond (contributes (by_exporter plan) k cells r) w 0) 0 ≡ cond (contributes plan k key r) (cond (i && is_eq (key_cmp (c ∷ key) cells)) w 0) 0
  cells_term r c is w i [] = neither_and i false (contributes plan k key r) (cond (contributes (by_exporter plan) k [] r) w 0) w
  cells_term r c is w i (d ∷ q) = elim (keys_tell key q) [
    | inl same ↦
        let p = contributes plan k key r in
        let e = is_eq (cell_cmp c d) in
        let whole = itself is_same_key keys_tell key in
        let mine : contributes (by_exporter plan) k (d ∷ key) r ≡ (e && p) = contributes_with r c d is ∙ ap (λ (b : Bool). b && p) (cells_turn c d) in
        subst (λ (ys : List Cell). cond (i && is_eq (key_cmp key ys)) (cond (contributes (by_exporter plan) k (d ∷ ys) r) w 0) 0 ≡ cond p (cond (i && is_eq (key_cmp (c ∷ key) (d ∷ ys))) w 0) 0) same.1
        (ap₂ (λ (a b : Bool). cond (i && a) (cond b w 0) 0) whole mine ∙ both_and i e p w
        ∙ sym (ap (λ (b : Bool). cond p (cond (i && b) w 0) 0) (then_eq (cell_cmp c d) (key_cmp key key) ∙ ap (λ (b : Bool). e && b) whole)))
    | inr other ↦
        ap (λ (a : Bool). cond (i && a) (cond (contributes (by_exporter plan) k (d ∷ q) r) w 0) 0) other.0
        ∙ neither_and i (is_eq (cell_cmp c d)) (contributes plan k key r) (cond (contributes (by_exporter plan) k (d ∷ q) r) w 0) w
        ∙ sym (ap (λ (b : Bool). cond (contributes plan k key r) (cond (i && b) w 0) 0) (then_eq (cell_cmp c d) (key_cmp key q) ∙ ap (λ (b : Bool). is_eq (cell_cmp c d) && b) other.0))
  ]

  module _ (rs : List DataRecord) (table : Table) (is_table : IsTable (by_exporter plan) rs table) where
    -- each record adds to one row of the key, that of its exporter
    record_sum : (r : DataRecord) → Among rs r → (c : Cell) → cell_of exporter_key kinds.Ipv6 r ≡ Some c → (w : ℕ)
        → sum_by (λ row. cond (contributes (by_exporter plan) k row.key r) w 0) (rows_of_all (rows_in table) k key) ≡ cond (contributes plan k key r) w 0
    unfolding flows_at
    record_sum r among_rs c is w =
        sum_kept (λ row. cond (contributes (by_exporter plan) k row.key r) w 0) is_of_all (rows_in table)
        ∙ sum_same (λ row. cond (is_of_all row) (cond (contributes (by_exporter plan) k row.key r) w 0) 0) (λ row. cond (contributes plan k key r) (cond (is_at k (c ∷ key) row) w 0) 0)
        (λ row. cells_term r c is w (is_eq (nat_cmp k row.interval)) row.key) (rows_in table)
        ∙ by (contributes plan k key r) refl
      where
        by : (p : Bool) → contributes plan k key r ≡ p → sum_by (λ row. cond p (cond (is_at k (c ∷ key) row) w 0) 0) (rows_in table) ≡ cond p w 0
        by false no_flow = sum_none (rows_in table)
        by true flow =
            let mine : contributes (by_exporter plan) k (c ∷ key) r ≡ true = contributes_with r c c is ∙ ap₂ (λ (a b : Bool). a && b) (cell_itself c) flow in
            let there = is_table.complete k (c ∷ key) (positive mine) in
            let values = places_of_values table.rows.items in
            one_row k (c ∷ key) w (rows_in table) (subst (IsStrictlySortedBy place_cmp) (sym values) is_table.ascending)
            (subst (λ (places : List (ℕ × List Cell)). Among places (k, c ∷ key)) (sym values) (among (map place_of table.rows.items) (k, c ∷ key) there))
          where
            positive : contributes (by_exporter plan) k (c ∷ key) r ≡ true → 0 < flows_at (by_exporter plan) rs k (c ∷ key)
            positive mine = some_kept (contributes (by_exporter plan) k (c ∷ key)) rs r among_rs mine

    -- weights of records, summed over the rows of the key
    weights : (weight : DataRecord → ℕ) (some : List DataRecord) → ((r : DataRecord) → Among some r → Among rs r) → All HasExporter some
        → sum_by (λ row. sum_by weight (filter (contributes (by_exporter plan) k row.key) some)) (rows_of_all (rows_in table) k key) ≡ sum_by weight (filter (contributes plan k key) some)
    weights weight [] within known = sum_none (rows_of_all (rows_in table) k key)
    weights weight (r ∷ some) within known =
        let rows = rows_of_all (rows_in table) k key in
        let has = All-head HasExporter r some known in
        let one : RowValue → ℕ = λ row. cond (contributes (by_exporter plan) k row.key r) (weight r) 0 in
        let others : RowValue → ℕ = λ row. sum_by weight (filter (contributes (by_exporter plan) k row.key) some) in
        sum_same (λ row. sum_by weight (filter (contributes (by_exporter plan) k row.key) (r ∷ some))) (λ row. one row + others row)
        (λ row. kept_more weight (contributes (by_exporter plan) k row.key r) r (filter (contributes (by_exporter plan) k row.key) some)) rows
        ∙ sum_both one others rows
        ∙ ap₂ (λ (a b : ℕ). a + b) (record_sum r (within r (inl refl)) has.0 has.1 (weight r)) (weights weight some (λ s among_some. within s (inr among_some)) (All-tail HasExporter r some known))
        ∙ sym (kept_more weight (contributes plan k key r) r (filter (contributes plan k key) some))

    module _ (known : All HasExporter rs) where
      all_weights : (weight : DataRecord → ℕ) → sum_by (λ row. sum_by weight (filter (contributes (by_exporter plan) k row.key) rs)) (rows_of_all (rows_in table) k key) ≡ sum_by weight (filter (contributes plan k key) rs)
      all_weights weight = weights weight rs (λ r there. there) known

      -- the sums of counters, one by one
      counters_sum : (cs : List ElementId) (i : ℕ)
          → sum_by (λ row. slice_index (map (sum_at (by_exporter plan) rs k row.key) cs) i) (rows_of_all (rows_in table) k key) ≡ slice_index (map (sum_at plan rs k key) cs) i
      unfolding sum_at share_of
      counters_sum [] i = sum_none (rows_of_all (rows_in table) k key)
      counters_sum (c ∷ cs) zero = all_weights (share_of plan k c)
      counters_sum (c ∷ cs) (suc i) = counters_sum cs i

      flows_sum : sum_by (λ row. flows_at (by_exporter plan) rs k row.key) (rows_of_all (rows_in table) k key) ≡ flows_at plan rs k key
      unfolding flows_at
      flows_sum =
          sum_same (λ row. length (filter (contributes (by_exporter plan) k row.key) rs)) (λ row. sum_by (λ r. 1) (filter (contributes (by_exporter plan) k row.key) rs))
          (λ row. length-sum (filter (contributes (by_exporter plan) k row.key) rs)) (rows_of_all (rows_in table) k key)
          ∙ all_weights (λ r. 1) ∙ sym (length-sum (filter (contributes plan k key) rs))

      -- what a row says, where its interval is this one
      at_interval : (row : RowValue) (f g : ℕ → ℕ) → f row.interval ≡ g row.interval → cond (is_of_all row) (f row.interval) 0 ≡ cond (is_of_all row) (g k) 0
      at_interval row f g same = elim (intervals_tell k row.interval) [
        | inl here ↦ ap (λ (n : ℕ). cond (is_of_all row) n 0) (same ∙ ap g (sym here.1))
        | inr other ↦
            let none : is_of_all row ≡ false = ap (λ (b : Bool). b && goes_on key row.key) other.0 in
            ap (λ (b : Bool). cond b (f row.interval) 0) none ∙ sym (ap (λ (b : Bool). cond b (g k) 0) none)
      ]

      rows_say : (own : RowValue → ℕ) (f : ℕ → List Cell → ℕ) → (rows : List Row) → All (λ row. own (value_of row) ≡ f row.interval row.key.items) rows
          → All (λ row. cond (is_of_all row) (own row) 0 ≡ cond (is_of_all row) (f k row.key) 0) (map value_of rows)
      rows_say own f [] all = All-nil (λ row. cond (is_of_all row) (own row) 0 ≡ cond (is_of_all row) (f k row.key) 0)
      rows_say own f (row ∷ rows) all =
          All-cons (λ row. cond (is_of_all row) (own row) 0 ≡ cond (is_of_all row) (f k row.key) 0) (value_of row) (map value_of rows)
          (at_interval (value_of row) (λ j. own (value_of row)) (λ j. f j row.key.items) (All-head (λ row. own (value_of row) ≡ f row.interval row.key.items) row rows all))
          (rows_say own f rows (All-tail (λ row. own (value_of row) ≡ f row.interval row.key.items) row rows all))

      said : (own : RowValue → ℕ) (f : ℕ → List Cell → ℕ) → All (λ row. own (value_of row) ≡ f row.interval row.key.items) table.rows.items
          → sum_by own (rows_of_all (rows_in table) k key) ≡ sum_by (λ row. f k row.key) (rows_of_all (rows_in table) k key)
      said own f all =
          sum_kept own is_of_all (rows_in table)
          ∙ sum_on (λ row. cond (is_of_all row) (own row) 0) (λ row. cond (is_of_all row) (f k row.key) 0) (rows_in table) (rows_say own f table.rows.items all)
          ∙ sym (sum_kept (λ row. f k row.key) is_of_all (rows_in table))

      pub exporters_sum : AreSumsOf (length plan.counters) (rows_of_all (rows_in table) k key) (total (map (sum_at plan rs k key) plan.counters) (flows_at plan rs k key))
      exporters_sum = record {
        counters = length-map plan.counters (sum_at plan rs k key);
        sums = λ i.
            sym (said (λ row. slice_index row.sums i) (λ j q. slice_index (map (sum_at (by_exporter plan) rs j q) plan.counters) i)
            (All-weaker (IsRow (by_exporter plan) rs) (λ row. slice_index row.sums.items i ≡ slice_index (map (sum_at (by_exporter plan) rs row.interval row.key.items) plan.counters) i)
            (λ row is. ap (λ (sums : List ℕ). slice_index sums i) is.sums) table.rows.items is_table.rows)
            ∙ counters_sum plan.counters i);
        flows =
            sym (said (λ row. row.flows) (flows_at (by_exporter plan) rs) (All-weaker (IsRow (by_exporter plan) rs) (λ row. row.flows ≡ flows_at (by_exporter plan) rs row.interval row.key.items) (λ row is. is.flows) table.rows.items is_table.rows) ∙ flows_sum);
      }

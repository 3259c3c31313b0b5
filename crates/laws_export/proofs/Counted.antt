-- The aggregate of records that are rows, one record a row.
use Rattle.std.proofs.Common.{◌≡◌, ℕ, ◌*◌, ◌/◌, ◌<◌, Bool, true, false, cond, eqb, nat_eq, List, [], ◌∷◌, map, All, Option, Some, None, refl, sym, ap, subst, ◌∙◌, arith, inl, inr}
use Rattle.std.specs.Prelude.{◌≢◌, ◌⊎◌, ◌||◌}
use Rattle.std.specs.List.Sorted.{IsStrictlySortedBy}
use Rattle.std.proofs.Math.Nat.{mul-div_cancel}
use Rattle.std.proofs.lemmas.Bool.{cases_Bool, eq-eqb}
use Rattle.std.proofs.lemmas.Bool.Decides.{eqb_tells}
use Rattle.std.proofs.lemmas.Map.Keys.{sorted_tail}
use Rattle.std.proofs.lemmas.List.Elements.{All-head, All-tail}
use Rattle.ipfix_elements.specs.declared.cell.Cell.{Cell}
use Rattle.ipfix_message.specs.declared.record.DataRecord.{DataRecord}
use Rattle.flow_table.specs.declared.table.Table.{Table}
use Rattle.flow_table.specs.AddedUp.{place}
use Rattle.flow_table.specs.Plans.{PlanValue}
use Rattle.flow_table.specs.Reading.{counter_of, IsUsed}
use Rattle.flow_table.specs.Rows.{is_same_key}
use Rattle.flow_table.specs.SameTables.{RowValue, value_of}
use Rattle.flow_table.specs.Tables.{sum_at, flows_at, place_of, place_cmp, IsTable}
use Rattle.flow_table.specs.Totals.{Total, total, joined}
use Rattle.flow_table.specs.Partials.{totals_at}
use Rattle.flow_table.specs.Flows.{flow_part, flow_total}
use Rattle.flow_table.proofs.Keyed.{itself}
use Rattle.flow_table.proofs.Places.{keys_tell}
use Rattle.flow_table.proofs.Sums.{totals_at-append, totals_at-used, flows_at-append}
use Rattle.flow_table.proofs.AddedUp.{among_map, not_later}
use Rattle.flow_table.proofs.OneTable.{Among, among, same_sorted, places_asymmetric, some_flow, row_at, rows_by_place}
use Rattle.laws_export.specs.ReadBack.{by_start, with_one_flow}

-- a record that is used as this row's one flow
pub record IsFlowOf (plan : PlanValue) (row : RowValue) (r : DataRecord) : Type 0 where
  pub last : ℕ
  pub used : IsUsed (by_start plan) r (row.interval * plan.length) last row.key
  pub sums : map (λ c. counter_of c r) plan.counters ≡ row.sums

module _ (plan : PlanValue) (positive : 0 < plan.length) (rec : RowValue → DataRecord) where
  abbrev p : PlanValue
  p = by_start plan

  abbrev Flows : List RowValue → Type 0
  Flows rows = All (λ row. IsFlowOf plan row (rec row)) rows

  abbrev first : RowValue → List RowValue → Type 0
  first row rows = IsFlowOf plan row (rec row)

  whole_shares : (one k : ℕ) (vs : List ℕ) → eqb k one ≡ true → map (λ v. cond (eqb k one) v 0) vs ≡ vs
  whole_shares one k [] same = refl
  whole_shares one k (v ∷ vs) same = rw (whole_shares one k vs same, same) refl

  part : (one k : ℕ) (vs : List ℕ) (same : Bool) → cond (nat_eq k one || false) (cond same (Some (total (map (λ v. cond (eqb k one) v 0) vs) 1)) None) None ≡ cond (eqb k one) (cond same (Some (total vs 1)) None) None
  part one k vs same = elim (cases_Bool (eqb k one)) [
    | inl t ↦ rw (whole_shares one k vs t, t) refl
    | inr f ↦ rw f refl
  ]

  -- the totals of a row's record
  one_total : (row : RowValue) (k : ℕ) (q : List Cell) → IsFlowOf plan row (rec row) → totals_at p (rec row ∷ []) k q ≡ cond (eqb k row.interval) (cond (is_same_key q row.key) (Some (total row.sums 1)) None) None
  unfolding flow_part flow_total
  one_total row k q is =
      let at : row.interval * plan.length / plan.length ≡ row.interval = mul-div_cancel row.interval positive in
      totals_at-used p (rec row) (row.interval * plan.length) is.last row.key k q is.used
      ∙ rw (at, is.sums) (part row.interval k row.sums (is_same_key q row.key))

  one_here : (row : RowValue) → IsFlowOf plan row (rec row) → totals_at p (rec row ∷ []) row.interval row.key ≡ Some (total row.sums 1)
  one_here row is = one_total row row.interval row.key is ∙ rw (eq-eqb row.interval row.interval refl, itself is_same_key keys_tell row.key) refl

  one_none : (row : RowValue) (k : ℕ) (q : List Cell) → IsFlowOf plan row (rec row) → place row ≢ (k, q) → totals_at p (rec row ∷ []) k q ≡ None
  one_none row k q is other =
      one_total row k q is ∙ elim (eqb_tells k row.interval) [
        | inl t ↦ elim (keys_tell q row.key) [
          | inl y ↦ absurd (other (let a = t.1 in let b = y.1 in cc))
          | inr n ↦ rw (t.0, n.0) refl
        ]
        | inr f ↦ rw f.0 refl
      ]

  join_none : (a b : Option Total) → a ≡ None → b ≡ None → joined a b ≡ None
  join_none a b e f = rw (e, f) refl

  join_first : (a b : Option Total) (t : Total) → a ≡ Some t → b ≡ None → joined a b ≡ Some t
  join_first a b t e f = rw (e, f) refl

  join_second : (a b : Option Total) (t : Total) → a ≡ None → b ≡ Some t → joined a b ≡ Some t
  join_second a b t e f = rw (e, f) refl

  none_at : (rows : List RowValue) (k : ℕ) (q : List Cell) → Flows rows → ((row : RowValue) → Among rows row → place row ≢ (k, q)) → totals_at p (map rec rows) k q ≡ None
  unfolding totals_at flows_at
  none_at [] k q flows other = refl
  none_at (row ∷ rows) k q flows other =
      totals_at-append p (rec row ∷ []) (map rec rows) k q
      ∙ join_none _ _ (one_none row k q (All-head (λ r. IsFlowOf plan r (rec r)) row rows flows) (other row (inl refl)))
      (none_at rows k q (All-tail (λ r. IsFlowOf plan r (rec r)) row rows flows) (λ r h. other r (inr h)))

  apart : (row : RowValue) (rows : List RowValue) (other : RowValue) → IsStrictlySortedBy place_cmp (place row ∷ map place rows) → Among rows other → place row ≢ place other
  apart row rows other sorted h e = not_later row rows sorted (subst (λ (z : ℕ × List Cell). Among (map place rows) z) (sym e) (among_map place rows other h))

  -- each row's totals are its own
  some_at : (rows : List RowValue) (row : RowValue) → Flows rows → IsStrictlySortedBy place_cmp (map place rows) → Among rows row → totals_at p (map rec rows) row.interval row.key ≡ Some (total row.sums 1)
  some_at [] row flows sorted h = absurd h
  some_at (x ∷ xs) row flows sorted (inl here) =
      let own : totals_at p (map rec (x ∷ xs)) x.interval x.key ≡ Some (total x.sums 1) =
      totals_at-append p (rec x ∷ []) (map rec xs) x.interval x.key
      ∙ join_first _ _ (total x.sums 1) (one_here x (All-head (λ r. IsFlowOf plan r (rec r)) x xs flows))
      (none_at xs x.interval x.key (All-tail (λ r. IsFlowOf plan r (rec r)) x xs flows) (λ r h e. apart x xs r sorted h (sym e))) in
      subst (λ (w : RowValue). totals_at p (map rec (x ∷ xs)) w.interval w.key ≡ Some (total w.sums 1)) here own
  some_at (x ∷ xs) row flows sorted (inr later) =
      totals_at-append p (rec x ∷ []) (map rec xs) row.interval row.key
      ∙ join_second _ _ (total row.sums 1) (one_none x row.interval row.key (All-head (λ r. IsFlowOf plan r (rec r)) x xs flows) (apart x xs row sorted later))
      (some_at xs row (All-tail (λ r. IsFlowOf plan r (rec r)) x xs flows) (sorted_tail place_cmp (place x) (map place xs) sorted) later)

  -- what totals say of sums and flows
  told : (rs : List DataRecord) (k : ℕ) (q : List Cell) (vs : List ℕ) → totals_at p rs k q ≡ Some (total vs 1) → (flows_at p rs k q ≡ 1) × (map (sum_at p rs k q) plan.counters ≡ vs)
  unfolding totals_at
  told rs k q vs h = by (eqb (flows_at p rs k q) 0) h
    where
      by : (b : Bool) → cond b None (Some (total (map (sum_at p rs k q) plan.counters) (flows_at p rs k q))) ≡ Some (total vs 1) → (flows_at p rs k q ≡ 1) × (map (sum_at p rs k q) plan.counters ≡ vs)
      by true e = absurd cc
      by false e =
          let same : total (map (sum_at p rs k q) plan.counters) (flows_at p rs k q) ≡ total vs 1 = cc in
          (ap (λ (t : Total). t.flows) same, ap (λ (t : Total). t.sums) same)

  told_none : (rs : List DataRecord) (k : ℕ) (q : List Cell) → totals_at p rs k q ≡ None → flows_at p rs k q ≡ 0
  unfolding totals_at
  told_none rs k q h = elim (eqb_tells (flows_at p rs k q) 0) [
    | inl t ↦ t.1
    | inr f ↦ absurd (let e : Some (total (map (sum_at p rs k q) plan.counters) (flows_at p rs k q)) ≡ None = rw f.0 at h in cc)
  ]

  -- a flow contributes at the rows' places alone
  listed : (rows : List RowValue) (k : ℕ) (q : List Cell) → Flows rows → 0 < flows_at p (map rec rows) k q → Among (map place rows) (k, q)
  unfolding flows_at
  listed [] k q flows some = absurd (omega (arith, some))
  listed (x ∷ xs) k q flows some =
      let is = All-head (λ r. IsFlowOf plan r (rec r)) x xs flows in
      let both = flows_at-append p (rec x ∷ []) (map rec xs) k q in
      let more = λ (none : place x ≢ (k, q)). listed xs k q (All-tail (λ r. IsFlowOf plan r (rec r)) x xs flows) (omega (arith, some, both, told_none (rec x ∷ []) k q (one_none x k q is none))) in
      elim (eqb_tells k x.interval) as (λ _. (place x ≡ (k, q)) ⊎ Among (map place xs) (k, q)) [
        | inl t ↦ elim (keys_tell q x.key) as (λ _. (place x ≡ (k, q)) ⊎ Among (map place xs) (k, q)) [
          | inl y ↦ inl (let a = t.1 in let b = y.1 in cc)
          | inr n ↦ inr (more (λ e. n.1 (sym (ap (λ (z : ℕ × List Cell). z.1) e))))
        ]
        | inr f ↦ inr (more (λ e. f.1 (sym (ap (λ (z : ℕ × List Cell). z.0) e))))
      ]

  row_of : (rows : List RowValue) (z : ℕ × List Cell) → Among (map place rows) z → (row : RowValue) × Among rows row × (place row ≡ z)
  row_of [] z h = absurd h
  row_of (x ∷ xs) z (inl here) = (x, inl refl, here)
  row_of (x ∷ xs) z (inr later) = let more = row_of xs z later in (more.0, inr more.1, more.2)

  same_rows : (rs : List DataRecord) (rows : List RowValue) → ((row : RowValue) → Among rows row → row_at p rs (place row) ≡ with_one_flow row) → map (row_at p rs) (map place rows) ≡ map with_one_flow rows
  same_rows rs [] same = refl
  same_rows rs (x ∷ xs) same = rw (same x (inl refl), same_rows rs xs (λ row h. same row (inr h))) refl

  value_at : (rs : List DataRecord) (row : RowValue) → (flows_at p rs row.interval row.key ≡ 1) × (map (sum_at p rs row.interval row.key) plan.counters ≡ row.sums) → row_at p rs (place row) ≡ with_one_flow row
  value_at rs row has = rw (has.0, has.1) refl

  pub counted : (rows : List RowValue) (table : Table) → Flows rows → IsStrictlySortedBy place_cmp (map place rows) → IsTable p (map rec rows) table → map value_of table.rows.items ≡ map with_one_flow rows
  counted rows table flows sorted is =
      let rs = map rec rows in
      let all : (row : RowValue) → Among rows row → (flows_at p rs row.interval row.key ≡ 1) × (map (sum_at p rs row.interval row.key) plan.counters ≡ row.sums) =
      λ row h. told rs row.interval row.key row.sums (some_at rows row flows sorted h) in
      let there : (z : ℕ × List Cell) → Among (map place_of table.rows.items) z → Among (map place rows) z =
      λ z h. listed rows z.0 z.1 flows (some_flow p rs table.rows.items z is.rows h) in
      let back : (z : ℕ × List Cell) → Among (map place rows) z → Among (map place_of table.rows.items) z =
      λ z h.
      let found = row_of rows z h in
      let one = (all found.0 found.1).0 in
      subst (λ (w : ℕ × List Cell). Among (map place_of table.rows.items) w) found.2
      (among (map place_of table.rows.items) (place found.0) (is.complete found.0.interval found.0.key (omega (arith, one)))) in
      let places : map place_of table.rows.items ≡ map place rows = same_sorted place_cmp (map place_of table.rows.items) (map place rows) places_asymmetric is.ascending sorted there back in
      rows_by_place p rs table.rows.items is.rows ∙ ap (map (row_at p rs)) places ∙ same_rows rs rows (λ row h. value_at rs row (all row h))

-- Tables of lists of records that have the same flow records.
use Rattle.std.proofs.Common.{◌≡◌, ℕ, ◌+◌, ◌<◌, Bool, true, false, cond, eqb, ltb, List, [], ◌∷◌, length, map, sum_by, filter, refl, sym, ap, ◌∙◌, arith}
use Rattle.std.specs.Prelude.{◌&&◌, nat_eq}
use Rattle.std.specs.List.{list_any, range_with_len}
use Rattle.std.proofs.lemmas.Bool.{cases_Bool, ltb-false, eq-eqb}
use Rattle.std.proofs.lemmas.List.Sums.{sum_by-cons, length-filter}
use Rattle.std.proofs.lemmas.List.Elements.{All-weaker}
use Rattle.ipfix_wire.specs.declared.specifier.ElementId.{ElementId}
use Rattle.ipfix_wire.proofs.Choices.{both_true}
use Rattle.ipfix_elements.specs.declared.cell.Cell.{Cell}
use Rattle.ipfix_message.specs.declared.record.DataRecord.{DataRecord}
use Rattle.recording_files.specs.Faithful.{is_flow}
use Rattle.flow_table.specs.Intervals.{covers}
use Rattle.flow_table.specs.Missing.{how_many, lacks_start, lacks_end, lacks_key, lacks_counter, missing_of}
use Rattle.flow_table.specs.Plans.{PlanValue}
use Rattle.flow_table.specs.Reading.{class_of, end_of, flow_class, is_class, key_of, start_of}
use Rattle.flow_table.specs.Tables.{IsRow, IsTable, begin_of, contributes, count_of, finish_of, flows_at, is_key, share_of, sum_at, tally_of}
use Rattle.flow_table.specs.declared.class.Class.{Class}
use Rattle.flow_table.specs.declared.class.Class.TheVariants.{Backward, Options, TooLong, Unkeyed, Untimed, Used}
use Rattle.flow_table.specs.declared.plan.TheConstants.{MAX_COUNTERS, MAX_KEYS}
use Rattle.flow_table.specs.declared.table.Row.{Row}
use Rattle.flow_table.specs.declared.table.Table.{Table}
use Rattle.flow_table.specs.declared.tally.Tally.{Tally}
use Rattle.flow_table.proofs.Lacking.{same_missing}
use Rattle.flow_table.proofs.Sums.{same_map}
use Rattle.laws_recordings.specs.RecordedFiles.{SameFlows, with_options}

-- ---- weights of flow records

-- a test that holds for flow records only
abbrev IsOfFlows : (DataRecord → Bool) → Type 0
IsOfFlows p = (r : DataRecord) → p r ≡ true → is_flow r ≡ true

first_weighed : (p : DataRecord → Bool) (f : DataRecord → ℕ) (x : DataRecord) (xs : List DataRecord) → sum_by f (filter p (x ∷ xs)) ≡ cond (p x) (f x) 0 + sum_by f (filter p xs)
first_weighed p f x xs =
    elim (p x) as (λ b. sum_by f (cond b (x ∷ filter p xs) (filter p xs)) ≡ cond b (f x) 0 + sum_by f (filter p xs))
    [ true ↦ sum_by-cons f x (filter p xs) | false ↦ omega arith ]

pub weighed : (p : DataRecord → Bool) (f : DataRecord → ℕ) (xs : List DataRecord) → sum_by f (filter p xs) ≡ sum_by (λ x. cond (p x) (f x) 0) xs
weighed p f [] = refl
weighed p f (x ∷ xs) =
    first_weighed p f x xs ∙ ap (λ (n : ℕ). cond (p x) (f x) 0 + n) (weighed p f xs) ∙ sym (sum_by-cons (λ y. cond (p y) (f y) 0) x xs)

-- the flow records among those of such a test are all of them
flows_among : (p : DataRecord → Bool) → IsOfFlows p → (xs : List DataRecord) → filter p (filter is_flow xs) ≡ filter p xs
flows_among p of_flows [] = refl
flows_among p of_flows (x ∷ xs) = by_tests (is_flow x) (p x) refl refl (flows_among p of_flows xs)
  where
    by_tests : (a b : Bool) → is_flow x ≡ a → p x ≡ b → filter p (filter is_flow xs) ≡ filter p xs → filter p (cond a (x ∷ filter is_flow xs) (filter is_flow xs)) ≡ cond b (x ∷ filter p xs) (filter p xs)
    by_tests true true f q more = ap (λ (c : Bool). cond c (x ∷ filter p (filter is_flow xs)) (filter p (filter is_flow xs))) q ∙ ap (λ (ys : List DataRecord). x ∷ ys) more
    by_tests true false f q more = ap (λ (c : Bool). cond c (x ∷ filter p (filter is_flow xs)) (filter p (filter is_flow xs))) q ∙ more
    by_tests false true f q more = let yes : is_flow x ≡ true = of_flows x q in absurd cc
    by_tests false false f q more = more

module _ (rs qs : List DataRecord) (same : SameFlows rs qs) where
  same_sum : (p : DataRecord → Bool) → IsOfFlows p → (f : DataRecord → ℕ) → sum_by f (filter p rs) ≡ sum_by f (filter p qs)
  same_sum p of_flows f =
      ap (λ (xs : List DataRecord). sum_by f xs) (sym (flows_among p of_flows rs))
      ∙ weighed p f (filter is_flow rs) ∙ same (λ r. cond (p r) (f r) 0) ∙ sym (weighed p f (filter is_flow qs))
      ∙ ap (λ (xs : List DataRecord). sum_by f xs) (flows_among p of_flows qs)

  same_length : (p : DataRecord → Bool) → IsOfFlows p → length (filter p rs) ≡ length (filter p qs)
  same_length p of_flows =
      ap (λ (xs : List DataRecord). length xs) (sym (flows_among p of_flows rs))
      ∙ length-filter p (filter is_flow rs) ∙ same (λ r. cond (p r) 1 0) ∙ sym (length-filter p (filter is_flow qs))
      ∙ ap (λ (xs : List DataRecord). length xs) (flows_among p of_flows qs)

-- ---- tests of flow records

-- a record of any other class is no options record
not_options : (plan : PlanValue) (class : Class) → is_class class Options ≡ false → IsOfFlows (λ r. is_class class (class_of plan r))
not_options plan class other r h = by_scope (ltb 0 r.scope) refl h
  where
    by_scope : (b : Bool) → ltb 0 r.scope ≡ b → is_class class (cond b Options (flow_class plan r (start_of plan.choices.times r) (end_of plan.choices.times r))) ≡ true → is_flow r ≡ true
    by_scope true e k = absurd cc
    by_scope false e k = eq-eqb r.scope 0 (omega (arith, ltb-false 0 r.scope e))

and_more : (p q : DataRecord → Bool) → IsOfFlows p → IsOfFlows (λ r. p r && q r)
and_more p q of_flows r h = of_flows r (both_true (p r) (q r) h).0

contributes_flows : (plan : PlanValue) (k : ℕ) (key : List Cell) → IsOfFlows (contributes plan k key)
unfolding contributes
contributes_flows plan k key r h =
    let given = both_true (is_class Used (class_of plan r) && list_any (nat_eq k) (covers plan (begin_of plan r) (finish_of plan r))) (is_key key (key_of plan r)) h in
    not_options plan Used refl r (both_true (is_class Used (class_of plan r)) (list_any (nat_eq k) (covers plan (begin_of plan r) (finish_of plan r))) given.0).0

-- ---- tables

module _ (plan : PlanValue) (rs qs : List DataRecord) (same : SameFlows rs qs) where
  sum_at-flows : (k : ℕ) (key : List Cell) (c : ElementId) → sum_at plan rs k key c ≡ sum_at plan qs k key c
  unfolding sum_at
  sum_at-flows k key c = same_sum rs qs same (contributes plan k key) (contributes_flows plan k key) (share_of plan k c)

  flows_at-flows : (k : ℕ) (key : List Cell) → flows_at plan rs k key ≡ flows_at plan qs k key
  unfolding flows_at
  flows_at-flows k key = same_length rs qs same (contributes plan k key) (contributes_flows plan k key)

  count_of-flows : (class : Class) → is_class class Options ≡ false → count_of plan rs class ≡ count_of plan qs class
  unfolding count_of
  count_of-flows class other = same_length rs qs same (λ r. is_class class (class_of plan r)) (not_options plan class other)

  sums-flows : (k : ℕ) (key : List Cell) (cs : List ElementId) → map (sum_at plan rs k key) cs ≡ map (sum_at plan qs k key) cs
  sums-flows k key [] = refl
  sums-flows k key (c ∷ cs) =
      let first = sum_at-flows k key c in
      let others = sums-flows k key cs in
      cc

  row-flows : (row : Row) → IsRow plan rs row → IsRow plan qs row
  row-flows row is =
      let flows = flows_at-flows row.interval row.key.items in
      record { some = omega (arith, is.some, flows); sums = is.sums ∙ sums-flows row.interval row.key.items plan.counters; flows = is.flows ∙ flows }

  how_many-flows : (test : DataRecord → Bool) → IsOfFlows test → how_many test rs ≡ how_many test qs
  unfolding how_many
  how_many-flows test of_flows = same_length rs qs same test of_flows

  missing-flows : missing_of plan rs ≡ missing_of plan qs
  unfolding missing_of
  missing-flows =
      same_missing _ _ _ _ _ _ _ _
      (how_many-flows (lacks_start plan) (λ r h. not_options plan Untimed refl r (both_true (is_class Untimed (class_of plan r)) _ h).0))
      (how_many-flows (lacks_end plan) (λ r h. not_options plan Untimed refl r (both_true (is_class Untimed (class_of plan r)) _ h).0))
      (same_map (λ k. how_many (lacks_key plan k) rs) (λ k. how_many (lacks_key plan k) qs)
      (λ k. how_many-flows (lacks_key plan k) (λ r h. not_options plan Unkeyed refl r (both_true (is_class Unkeyed (class_of plan r)) _ h).0)) (range_with_len 0 MAX_KEYS))
      (same_map (λ c. how_many (lacks_counter plan c) rs) (λ c. how_many (lacks_counter plan c) qs)
      (λ c. how_many-flows (lacks_counter plan c) (λ r h. not_options plan Used refl r (both_true (is_class Used (class_of plan r)) _ h).0)) (range_with_len 0 MAX_COUNTERS))

  tally-flows : (t : Tally) → t ≡ tally_of plan rs → record t { options = count_of plan qs Options } ≡ tally_of plan qs
  tally-flows t is =
      let untimed : t.untimed ≡ count_of plan qs Untimed = ap (λ (x : Tally). x.untimed) is ∙ count_of-flows Untimed refl in
      let backward : t.backward ≡ count_of plan qs Backward = ap (λ (x : Tally). x.backward) is ∙ count_of-flows Backward refl in
      let unkeyed : t.unkeyed ≡ count_of plan qs Unkeyed = ap (λ (x : Tally). x.unkeyed) is ∙ count_of-flows Unkeyed refl in
      let too_long : t.too_long ≡ count_of plan qs TooLong = ap (λ (x : Tally). x.too_long) is ∙ count_of-flows TooLong refl in
      let used : t.used ≡ count_of plan qs Used = ap (λ (x : Tally). x.used) is ∙ count_of-flows Used refl in
      cc

  pub table_flows : (table : Table) → IsTable plan rs table → IsTable plan qs (with_options plan qs table)
  table_flows table is = record {
    ascending = is.ascending;
    rows = All-weaker (IsRow plan rs) (IsRow plan qs) row-flows table.rows.items is.rows;
    complete = λ k key some. is.complete k key (omega (arith, some, flows_at-flows k key));
    tally = tally-flows table.tally is.tally;
    missing = is.missing ∙ missing-flows;
  }

-- The record of a row is used as the row's one flow.
use Rattle.std.proofs.Common.{◌≡◌, ℕ, ◌^◌, ◌<◌, ◌≤◌, Bool, ◌&&◌, true, false, eqb, List, [], ◌∷◌, ◌++◌, length, map, All, refl, sym, ap, subst, ◌∙◌, append_assoc, arith, inl, inr}
use Rattle.std.specs.Prelude.{zip}
use Rattle.std.specs.List.{list_all, list_any, AllZip}
use Rattle.std.proofs.lemmas.Bool.{cases_Bool, and_parts, ltb-true, eqb-true, eq-eqb}
use Rattle.std.proofs.lemmas.List.{map-append}
use Rattle.std.proofs.lemmas.List.Elements.{All-nil, All-cons, All-head, All-tail, All-append}
use Rattle.byteorder.specs.Endian.{big_bytes}
use Rattle.ipfix_wire.specs.declared.specifier.ElementId.{ElementId}
use Rattle.ipfix_elements.specs.Elements.{iana}
use Rattle.ipfix_elements.specs.declared.cell.Cell.{Cell}
use Rattle.ipfix_elements.specs.declared.kind.Kind.{Kind}
use Rattle.ipfix_message.specs.Fields.{Field}
use Rattle.ipfix_wire.proofs.Choices.{or_false}
use Rattle.flow_table.specs.declared.key.Key.{Key}
use Rattle.flow_table.specs.Plans.{PlanValue, IsPlan, is_key_element, is_value, exported_element, has_twice, keys_and_kinds}
use Rattle.flow_table.specs.Fitting.{IsCellOf}
use Rattle.flow_table.specs.SameTables.{RowValue}
use Rattle.flow_table.proofs.PlanKeys.{exported_apart}
use Rattle.flow_table.proofs.UsedRecords.{is_used}
use Rattle.flow_export.specs.CsvText.{first_of, last_of}
use Rattle.flow_export.specs.IpfixText.{field, key_field, number_field, row_fields}
use Rattle.flow_export.specs.Fitting.{FitsValue}
use Rattle.laws_export.specs.ReadBack.{CanBeCounted, Recounts, row_record, by_start}
use Rattle.laws_export.proofs.FieldsFound.{Lacks, IsFound, all_found, All-left, All-right}
use Rattle.laws_export.proofs.ValuesRead.{start_again, end_again, cells_read, counters_read}
use Rattle.flow_export.proofs.PlanFacts.{exported_value, value_is_no_time}
use Rattle.laws_export.proofs.Counted.{IsFlowOf, counted}

-- ---- the elements of a row's fields

-- no time is one of these
no_time : (a b : Bool) → (a && b) ≡ false → a ≡ true → b ≡ false
no_time true b h same = h
no_time false b h same = absurd cc

lacks_times : (a b : List ℕ) (e : ElementId) → is_value e ≡ true → Lacks (field (iana 152) a ∷ field (iana 153) b ∷ []) e
lacks_times a b e value = elim (cases_Bool (eqb 0 e.pen)) as (λ _. Lacks (field (iana 152) a ∷ field (iana 153) b ∷ []) e) [
  | inl same ↦
      let pen : eqb e.pen 0 ≡ true = eq-eqb e.pen 0 (sym (eqb-true 0 e.pen same)) in
      let none = no_time (eqb e.pen 0) (list_any (λ n. eqb n e.number) (150 ∷ 151 ∷ 152 ∷ 153 ∷ [])) (value_is_no_time e value) pen in
      let first = or_false (eqb 150 e.number) (list_any (λ n. eqb n e.number) (151 ∷ 152 ∷ 153 ∷ [])) none in
      let second = or_false (eqb 151 e.number) (list_any (λ n. eqb n e.number) (152 ∷ 153 ∷ [])) first.1 in
      let third = or_false (eqb 152 e.number) (list_any (λ n. eqb n e.number) (153 ∷ [])) second.1 in
      let fourth = or_false (eqb 153 e.number) (list_any (λ n. eqb n e.number) []) third.1 in
      rw (same, third.0, fourth.0) refl
  | inr other ↦ rw other refl
]

keys_lack : (a b : List ℕ) (ks : List Key) (kinds : List Kind) (cs : List Cell) → list_all (λ k. is_key_element k.element) ks ≡ true
    → All (λ g. Lacks (field (iana 152) a ∷ field (iana 153) b ∷ []) g.element) (map key_field (zip (zip ks kinds) cs))
keys_lack a b [] kinds cs keys = All-nil (λ g. Lacks (field (iana 152) a ∷ field (iana 153) b ∷ []) g.element)
keys_lack a b (k ∷ ks) [] cs keys = All-nil (λ g. Lacks (field (iana 152) a ∷ field (iana 153) b ∷ []) g.element)
keys_lack a b (k ∷ ks) (kind ∷ kinds) [] keys = All-nil (λ g. Lacks (field (iana 152) a ∷ field (iana 153) b ∷ []) g.element)
keys_lack a b (k ∷ ks) (kind ∷ kinds) (c ∷ cs) keys =
    let both = and_parts (is_key_element k.element) (list_all (λ k. is_key_element k.element) ks) keys in
    let here = lacks_times a b (exported_element k) (exported_value k both.0) in
    All-cons (λ g. Lacks (field (iana 152) a ∷ field (iana 153) b ∷ []) g.element) (key_field ((k, kind), c)) (map key_field (zip (zip ks kinds) cs)) here (keys_lack a b ks kinds cs both.1)

counters_lack : (a b : List ℕ) (cs : List ElementId) (vs : List ℕ) → length vs ≡ length cs → list_all is_value cs ≡ true
    → All (λ g. Lacks (field (iana 152) a ∷ field (iana 153) b ∷ []) g.element) (map number_field (zip cs vs))
counters_lack a b [] vs same counters = All-nil (λ g. Lacks (field (iana 152) a ∷ field (iana 153) b ∷ []) g.element)
counters_lack a b (c ∷ cs) [] same counters = absurd (omega (arith, same))
counters_lack a b (c ∷ cs) (v ∷ vs) same counters =
    let both = and_parts (is_value c) (list_all is_value cs) counters in
    All-cons (λ g. Lacks (field (iana 152) a ∷ field (iana 153) b ∷ []) g.element) (number_field (c, v)) (map number_field (zip cs vs))
    (lacks_times a b c both.0) (counters_lack a b cs vs (omega (arith, same)) both.1)

key_elements : (ks : List Key) (kinds : List Kind) (cs : List Cell) → length kinds ≡ length ks → AllZip IsCellOf kinds cs → map (λ g. g.element) (map key_field (zip (zip ks kinds) cs)) ≡ map exported_element ks
key_elements [] kinds cs beside fits = refl
key_elements (k ∷ ks) [] cs beside fits = absurd (omega (arith, beside))
key_elements (k ∷ ks) (kind ∷ kinds) [] beside fits = absurd fits
key_elements (k ∷ ks) (kind ∷ kinds) (c ∷ cs) beside fits = ap (λ (es : List ElementId). exported_element k ∷ es) (key_elements ks kinds cs (omega (arith, beside)) fits.1)

counter_elements : (cs : List ElementId) (vs : List ℕ) → length vs ≡ length cs → map (λ g. g.element) (map number_field (zip cs vs)) ≡ cs
counter_elements [] vs same = refl
counter_elements (c ∷ cs) [] same = absurd (omega (arith, same))
counter_elements (c ∷ cs) (v ∷ vs) same = ap (λ (es : List ElementId). c ∷ es) (counter_elements cs vs (omega (arith, same)))

-- each key's and counter's field is the first of its element
values_found : (plan : PlanValue) (row : RowValue) → IsPlan plan → FitsValue plan row
    → All (IsFound (row_fields plan row)) (map key_field (zip (keys_and_kinds plan) row.key) ++ map number_field (zip plan.counters row.sums))
values_found plan row is fits =
    let keys = map key_field (zip (keys_and_kinds plan) row.key) in
    let counters = map number_field (zip plan.counters row.sums) in
    let start = field (iana 152) (big_bytes 8 (first_of plan row)) in
    let end = field (iana 153) (big_bytes 8 (last_of plan row)) in
    let flows = field (iana 375) (big_bytes 8 row.flows) in
    let done = start ∷ end ∷ [] in
    let elements : map (λ (g : Field). g.element) (keys ++ counters) ≡ map exported_element plan.keys ++ plan.counters =
    map-append (λ (g : Field). g.element) keys counters ∙ ap (λ (es : List ElementId). es ++ map (λ (g : Field). g.element) counters) (key_elements plan.keys plan.kinds row.key fits.key.beside fits.key.fit)
    ∙ ap (λ (es : List ElementId). map exported_element plan.keys ++ es) (counter_elements plan.counters row.sums fits.sums) in
    let apart = exported_apart plan is in
    let lack = All-append (λ (g : Field). Lacks done g.element) keys counters (keys_lack start.octets end.octets plan.keys plan.kinds row.key is.values) (counters_lack start.octets end.octets plan.counters row.sums fits.sums is.counters) in
    subst (λ (fs : List Field). All (IsFound (start ∷ end ∷ fs)) (keys ++ counters)) (append_assoc keys counters (flows ∷ []))
    (all_found done (keys ++ counters) (flows ∷ []) lack (ap has_twice elements ∙ apart))

row_flow : (plan : PlanValue) (time : ℕ) (row : RowValue) → IsPlan plan → FitsValue plan row → last_of plan row < 2 ^ 50 → All (λ v. v < 2 ^ 64) row.sums
    → IsFlowOf plan row (row_record plan time row)
row_flow plan time row is fits in_time small =
    let r = row_record plan time row in
    let keys = map key_field (zip (keys_and_kinds plan) row.key) in
    let counters = map number_field (zip plan.counters row.sums) in
    let found = values_found plan row is fits in
    let positive : 0 < plan.length = ltb-true 0 plan.length is.positive in
    let forward : first_of plan row ≤ last_of plan row = omega (arith, positive) in
    record {
      last = last_of plan row;
      used = is_used (by_start plan) r (first_of plan row) (last_of plan row) row.key (omega arith)
          (start_again plan.choices.times plan time row (omega (arith, forward, in_time))) (end_again plan.choices.times plan time row in_time) forward in_time
          (cells_read plan.keys plan.kinds row.key r fits.key.beside fits.key.fit (All-left (IsFound (row_fields plan row)) keys counters found)) refl;
      sums = counters_read plan.counters row.sums r fits.sums small (All-right (IsFound (row_fields plan row)) keys counters found);
    }

all_flows : (plan : PlanValue) (time : ℕ) (rows : List RowValue) → IsPlan plan → All (FitsValue plan) rows → All (λ row. last_of plan row < 2 ^ 50) rows
    → All (λ row. All (λ v. v < 2 ^ 64) row.sums) rows → All (λ row. IsFlowOf plan row (row_record plan time row)) rows
all_flows plan time [] is fit in_time small = All-nil (λ row. IsFlowOf plan row (row_record plan time row))
all_flows plan time (row ∷ rows) is fit in_time small =
    All-cons (λ row. IsFlowOf plan row (row_record plan time row)) row rows
    (row_flow plan time row is (All-head (FitsValue plan) row rows fit) (All-head (λ row. last_of plan row < 2 ^ 50) row rows in_time) (All-head (λ row. All (λ v. v < 2 ^ 64) row.sums) row rows small))
    (all_flows plan time rows is (All-tail (FitsValue plan) row rows fit) (All-tail (λ row. last_of plan row < 2 ^ 50) row rows in_time) (All-tail (λ row. All (λ v. v < 2 ^ 64) row.sums) row rows small))

pub counts_again : (plan : PlanValue) (time : ℕ) (rows : List RowValue) → CanBeCounted plan rows → Recounts plan time rows
counts_again plan time rows can table is =
    let positive : 0 < plan.length = ltb-true 0 plan.length can.is_plan.positive in
    counted plan positive (row_record plan time) rows table (all_flows plan time rows can.is_plan can.fit can.in_time can.small) can.ascending is

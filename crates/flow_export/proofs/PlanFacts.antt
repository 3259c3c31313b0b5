-- The template of a plan has room, and its elements are apart from the times.
use Rattle.std.proofs.Common.{◌≡◌, ℕ, ◌+◌, ◌*◌, ◌^◌, ◌<◌, ◌≤◌, Bool, true, false, cond, eqb, nat_lt, nat_le, ◌||◌, not, List, [], ◌∷◌, ◌++◌, length, map, All, refl, arith, inl, inr}
use Rattle.std.specs.Prelude.{is_some}
use Rattle.std.specs.List.{list_all, zip}
use Rattle.std.proofs.lemmas.Bool.{cases_Bool, and_parts, ltb-true, leb-true}
use Rattle.std.proofs.lemmas.List.{length-append, length-map}
use Rattle.std.proofs.lemmas.List.Elements.{All-nil, All-cons, All-append}
use Rattle.ipfix_wire.specs.declared.specifier.ElementId.{ElementId}
use Rattle.ipfix_wire.specs.declared.specifier.Spec.{Spec}
use Rattle.ipfix_elements.specs.Elements.{iana}
use Rattle.ipfix_elements.specs.Names.{IsElement}
use Rattle.ipfix_elements.specs.declared.kind.Kind.{Kind}
use Rattle.ipfix_elements.specs.declared.kind.Kind.TheVariants.{Unsigned, Ipv4, Ipv6, Mac, Seconds, Millis, Octets}
use Rattle.ipfix_message.specs.DataRecords.{least}
use Rattle.flow_table.specs.declared.key.Key.{Key}
use Rattle.flow_table.specs.Plans.{PlanValue, IsPlan, is_element, is_time, is_value, is_key_element, is_key_kind, exported_element, exporter, exporter_ipv6, prefix_element, same_element, whole_element, keys_and_kinds}
use Rattle.flow_export.specs.Fitting.{HasNumber}
use Rattle.flow_export.specs.IpfixText.{width_of, key_spec, number_spec}
use Rattle.flow_export.proofs.RowFields.{narrow_number}
use Rattle.flow_export.proofs.Room.{IsSpec, HasRoom}

-- ---- elements

not_is : (b : Bool) → not b ≡ true → b ≡ false
not_is true h = absurd cc
not_is false h = refl

-- a key's or a counter's element: its numbers are in range, and it is no time
pub value_is_element : (e : ElementId) → is_value e ≡ true → IsElement e
value_is_element e value =
    let inside = and_parts (nat_lt e.pen (2 ^ 32)) (nat_lt e.number (2 ^ 15)) (and_parts (is_element e) (not (is_time e)) value).0 in
    record { pen = ltb-true e.pen (2 ^ 32) inside.0; number = ltb-true e.number (2 ^ 15) inside.1 }

pub value_is_no_time : (e : ElementId) → is_value e ≡ true → is_time e ≡ false
value_is_no_time e value = not_is (is_time e) (and_parts (is_element e) (not (is_time e)) value).1

pub key_narrow : (kind : Kind) → is_key_kind kind ≡ true → width_of kind ≤ 16
key_narrow (Unsigned width) key = narrow_number width
key_narrow Ipv4 key = omega arith
key_narrow Ipv6 key = omega arith
key_narrow Mac key = omega arith
key_narrow Seconds key = omega arith
key_narrow Millis key = omega arith
key_narrow Octets key = absurd cc

-- ---- room

abbrev AreKeys : List Key → Type 0
AreKeys keys = list_all (λ k. is_key_element k.element) keys ≡ true

abbrev AreKeyKinds : List Kind → Type 0
AreKeyKinds kinds = list_all is_key_kind kinds ≡ true

abbrev CountersOf : List ElementId → Type 0
CountersOf counters = list_all is_value counters ≡ true

prefix_value : (a b c : Bool) → is_value (iana (cond a 44 (cond b 45 (cond c 170 169)))) ≡ true
prefix_value true b c = refl
prefix_value false true c = refl
prefix_value false false true = refl
prefix_value false false false = refl

whole_value : (e : ElementId) (b : Bool) → (b || is_value e) ≡ true → is_value (cond b exporter_ipv6 e) ≡ true
whole_value e true key = refl
whole_value e false key = key

exported_by : (e : ElementId) (b : Bool) → is_key_element e ≡ true → is_value (cond b (prefix_element e) (whole_element e)) ≡ true
exported_by e true key = prefix_value (eqb e.number 8) (eqb e.number 12) (eqb e.number 27)
exported_by e false key = whole_value e (same_element e exporter) key

-- what a key is exported as can stand in a template, and is no time
pub exported_value : (k : Key) → is_key_element k.element ≡ true → is_value (exported_element k) ≡ true
exported_value k key = exported_by k.element (is_some k.prefix) key

value_spec : (e : ElementId) (width : ℕ) → e.pen < 2 ^ 32 → e.number < 2 ^ 15 → width ≤ 16 → IsSpec (record { element = e; width = width })
value_spec e width pen number narrow = record { pen = pen; number = number; width = omega (arith, narrow) }

key_fits : (k : Key) (kind : Kind) → is_key_element k.element ≡ true → is_key_kind kind ≡ true → IsSpec (key_spec (k, kind))
key_fits k kind element key =
    let inside = value_is_element (exported_element k) (exported_value k element) in
    value_spec (exported_element k) (width_of kind) inside.pen inside.number (key_narrow kind key)

keys_fit : (ks : List Key) (kinds : List Kind) → AreKeys ks → AreKeyKinds kinds → All IsSpec (map key_spec (zip ks kinds))
keys_fit [] kinds values keys = All-nil IsSpec
keys_fit (k ∷ ks) [] values keys = All-nil IsSpec
keys_fit (k ∷ ks) (kind ∷ kinds) values keys =
    let value = and_parts (is_key_element k.element) (list_all (λ k. is_key_element k.element) ks) values in
    let key = and_parts (is_key_kind kind) (list_all is_key_kind kinds) keys in
    All-cons IsSpec (key_spec (k, kind)) (map key_spec (zip ks kinds)) (key_fits k kind value.0 key.0) (keys_fit ks kinds value.1 key.1)

counters_fit : (cs : List ElementId) → CountersOf cs → All IsSpec (map number_spec cs)
counters_fit [] counters = All-nil IsSpec
counters_fit (c ∷ cs) counters =
    let both = and_parts (is_value c) (list_all is_value cs) counters in
    let inside = value_is_element c both.0 in
    All-cons IsSpec (number_spec c) (map number_spec cs) (value_spec c 8 inside.pen inside.number (omega arith)) (counters_fit cs both.1)

least-append : (ss rs : List Spec) → least (ss ++ rs) ≡ least ss + least rs
least-append [] rs = omega arith
least-append (s ∷ ss) rs = omega (arith, least-append ss rs)

counted_once : (n : ℕ) → n ≤ 16 → cond (eqb n 65535) 1 n ≤ 16
counted_once n narrow = elim (cases_Bool (eqb n 65535)) [ inl t ↦ rw t (omega arith) | inr f ↦ rw f narrow ]

least-keys : (ks : List Key) (kinds : List Kind) → AreKeyKinds kinds → least (map key_spec (zip ks kinds)) ≤ 16 * length ks
least-keys [] kinds keys = omega arith
least-keys (k ∷ ks) [] keys = omega arith
least-keys (k ∷ ks) (kind ∷ kinds) keys =
    let both = and_parts (is_key_kind kind) (list_all is_key_kind kinds) keys in
    omega (arith, counted_once (width_of kind) (key_narrow kind both.0), least-keys ks kinds both.1)

zip_short : (ks : List Key) (kinds : List Kind) → length (zip ks kinds) ≤ length ks
zip_short [] kinds = omega arith
zip_short (k ∷ ks) [] = omega arith
zip_short (k ∷ ks) (kind ∷ kinds) = omega (arith, zip_short ks kinds)

least-counters : (cs : List ElementId) → least (map number_spec cs) ≡ 8 * length cs
least-counters [] = refl
least-counters (c ∷ cs) = omega (arith, least-counters cs)

pub few_keys : (plan : PlanValue) → IsPlan plan → (length plan.keys ≤ 8) × (length plan.counters ≤ 4)
few_keys plan is = (leb-true (length plan.keys) 8 is.few, leb-true (length plan.counters) 4 (and_parts (nat_le 1 (length plan.counters)) (nat_le (length plan.counters) 4) is.some).1)

pub has_room : (plan : PlanValue) → IsPlan plan → HasRoom plan
has_room plan is =
    let eight = (few_keys plan is).0 in
    let four = (few_keys plan is).1 in
    let keys = keys_and_kinds plan in
    let keys_len : length (map key_spec keys) ≡ length keys = length-map _ _ in
    let counters_len : length (map number_spec plan.counters) ≡ length plan.counters = length-map _ _ in
    let start : Spec = record { element = iana 152; width = 8 } in
    let end : Spec = record { element = iana 153; width = 8 } in
    let last : Spec = record { element = iana 375; width = 8 } in
    let counters = map number_spec plan.counters ++ last ∷ [] in
    let fixed : (n : ℕ) → n < 2 ^ 15 → IsSpec (record { element = iana n; width = 8 }) = λ n small. value_spec (iana n) 8 (omega arith) small (omega arith) in
    let bodies : All IsSpec (map key_spec keys ++ counters) =
    All-append IsSpec (map key_spec keys) counters (keys_fit plan.keys plan.kinds is.values is.kinds)
    (All-append IsSpec (map number_spec plan.counters) (last ∷ []) (counters_fit plan.counters is.counters) (All-cons IsSpec last [] (fixed 375 (omega arith)) (All-nil IsSpec))) in
    record {
      specs = All-cons IsSpec start (end ∷ (map key_spec keys ++ counters)) (fixed 152 (omega arith)) (All-cons IsSpec end (map key_spec keys ++ counters) (fixed 153 (omega arith)) bodies);
      few = omega (arith, eight, four, length-append (map key_spec keys) counters, length-append (map number_spec plan.counters) (last ∷ []), keys_len, zip_short plan.keys plan.kinds, counters_len);
      short = omega (arith, eight, four, least-append (map key_spec keys) counters, least-append (map number_spec plan.counters) (last ∷ []), least-keys plan.keys plan.kinds is.kinds, least-counters plan.counters);
    }

-- ---- numbers of elements

key_numbers_of : (ks : List Key) → AreKeys ks → All (λ k. HasNumber (exported_element k)) ks
key_numbers_of [] values = All-nil (λ k. HasNumber (exported_element k))
key_numbers_of (k ∷ ks) values =
    let both = and_parts (is_key_element k.element) (list_all (λ k. is_key_element k.element) ks) values in
    All-cons (λ k. HasNumber (exported_element k)) k ks (value_is_element (exported_element k) (exported_value k both.0)).number (key_numbers_of ks both.1)

counter_numbers_of : (cs : List ElementId) → CountersOf cs → All HasNumber cs
counter_numbers_of [] counters = All-nil HasNumber
counter_numbers_of (c ∷ cs) counters =
    let both = and_parts (is_value c) (list_all is_value cs) counters in
    All-cons HasNumber c cs (value_is_element c both.0).number (counter_numbers_of cs both.1)

pub key_numbers : (plan : PlanValue) → IsPlan plan → All (λ k. HasNumber (exported_element k)) plan.keys
key_numbers plan is = key_numbers_of plan.keys is.values

pub counter_numbers : (plan : PlanValue) → IsPlan plan → All HasNumber plan.counters
counter_numbers plan is = counter_numbers_of plan.counters is.counters

-- What passes the tests is a plan, and files change none of built-in elements.
use Rattle.std.proofs.Common.{◌≡◌, ℕ, Bool, true, false, eqb, nat_lt, nat_le, ◌||◌, ◌&&◌, not, List, [], ◌∷◌, length, map, find, Option, Some, None, is_none, unwrap_or, cond, refl, sym, ap, ap₂, subst, ◌∙◌, inl, inr}
use Rattle.std.specs.List.{list_all, list_any}
use Rattle.std.specs.Option.{option_map_or}
use Rattle.std.proofs.lemmas.Bool.{false≢true, cases_Bool, or_cases, and_parts, and_from, eqb-true}
use Rattle.std.proofs.lemmas.List.{length-map}
use Rattle.std.proofs.lemmas.List.Folds.{list_all-map}
use Rattle.ipfix_wire.specs.declared.specifier.ElementId.{ElementId}
use Rattle.ipfix_elements.specs.Elements.{Entry, entry_of, elements, iana}
use Rattle.ipfix_elements.specs.declared.kind.Kind.{Kind}
use Rattle.ipfix_elements.specs.declared.kind.Kind.TheVariants.{Octets, Ipv4, Ipv6, Unsigned}
use Rattle.ipfix_elements.specs.declared.kind.Width.TheVariants.{Four}
use Rattle.element_registry.specs.Registries.{Known, is_of, element_kind}
use Rattle.element_registry.specs.declared.kind.ElementKind.TheVariants.{Plain}
use Rattle.flow_table.specs.declared.choices.Choices.{Choices}
use Rattle.flow_table.specs.declared.choices.Totals.{Totals}
use Rattle.flow_table.specs.declared.choices.Totals.TheVariants.{Refused, AsDeltas}
use Rattle.flow_table.specs.declared.key.Key.{Key}
use Rattle.flow_table.specs.declared.key.KeyElements.{KeyElements}
use Rattle.flow_table.specs.declared.key.KeyElements.TheVariants.{OfRecords, WithContext}
use Rattle.flow_table.specs.declared.key.Side.TheVariants.{Read, Exported}
use Rattle.flow_table.specs.declared.method.Method.{Method}
use Rattle.flow_table.specs.declared.plan_fault.PlanFault.{PlanFault}
use Rattle.flow_table.specs.declared.plan_fault.PlanFault.TheVariants.{KeyCount, KeyKind, Prefix, CounterCount, CounterKind}
use Rattle.flow_table.specs.Plans.{KindsStay, PlanValue, IsPlan, first_fault_of, chosen_fault, chosen_plan, basic, plan_with, field_kind, key_kind, context_kind, first_fault, fault_among, is_context, is_key_element, is_record_key, may_be_key, exporter, exporter_ipv4, exporter_ipv6, observation_domain, same_element, is_between, is_element, is_time, is_value, is_key, is_key_kind, is_built_in_counter, is_counter, is_delta_of, is_prefix_of, has_twice, elements_in, or_else, fault_unless, length_fault, spread_fault, repeat_fault, is_taken_total, may_count}

-- ---- lists

-- what holds of each of some numbers
abbrev pub Each : (ℕ → Type 0) → List ℕ → Type 0
Each P [] = Unit {0}
Each P (n ∷ ns) = P n × Each P ns

any_of : (P : ℕ → Type 0) (ns : List ℕ) (x : ℕ) → Each P ns → list_any (λ n. eqb n x) ns ≡ true → P x
any_of P [] x each any = absurd cc
any_of P (n ∷ ns) x each any = elim (cases_Bool (eqb n x)) [
  | inl t ↦ subst P (eqb-true n x t) each.0
  | inr f ↦ any_of P ns x each.1 (rw f at any)
]

pub all_weaker : {X : Type 0} (p q : X → Bool) → ((x : X) → p x ≡ true → q x ≡ true) → (xs : List X) → list_all p xs ≡ true → list_all q xs ≡ true
all_weaker p q weaker [] all = refl
all_weaker p q weaker (x ∷ xs) all =
    let both = and_parts (p x) (list_all p xs) all in
    and_from (q x) (list_all q xs) (weaker x both.0) (all_weaker p q weaker xs both.1)

all_mapped : {X Y : Type 0} (f g : X → Y) (p : X → Bool) → ((x : X) → p x ≡ true → f x ≡ g x) → (xs : List X) → list_all p xs ≡ true → map f xs ≡ map g xs
all_mapped f g p same [] all = refl
all_mapped f g p same (x ∷ xs) all =
    let both = and_parts (p x) (list_all p xs) all in
    ap₂ (λ y ys. y ∷ ys) (same x both.0) (all_mapped f g p same xs both.1)

or_left : (a b : Bool) → a ≡ true → (a || b) ≡ true
or_left a b h = rw h refl

or_right : (a b : Bool) → b ≡ true → (a || b) ≡ true
or_right true b h = refl
or_right false b h = h

-- ---- built-in elements

-- one of the numbers, of IANA's registry
pub has_number : (P : ElementId → Type 0) (ns : List ℕ) (e : ElementId) → Each (λ n. P (iana n)) ns → (eqb e.pen 0 && list_any (λ n. eqb n e.number) ns) ≡ true → P e
has_number P ns e each any =
    let both = and_parts (eqb e.pen 0) (list_any (λ n. eqb n e.number) ns) any in
    let same : iana e.number ≡ e = rw (eqb-true e.pen 0 both.0) refl in
    subst P same (any_of (λ n. P (iana n)) ns e.number each both.1)

-- a key without files is built in
has_entry : (o : Option Entry) → is_key_kind (field_kind (option_map_or (λ (r : Entry). Plain r.kind) o (Plain Octets))) ≡ true → (r : Entry) × (o ≡ Some r)
has_entry None key = absurd cc
has_entry (Some r) key = (r, refl)

record_kind : List Known → ElementId → Kind
record_kind known e = field_kind (element_kind known e)

built_in_kind : (known : List Known) (e : ElementId) (r : Entry) → entry_of e ≡ Some r → record_kind known e ≡ field_kind (Plain r.kind)
unfolding record_kind
built_in_kind known e r h =
    ap (λ (o : Option Entry). field_kind (option_map_or (λ (r : Entry). Plain r.kind) o (option_map_or (λ (k : Known). k.kind) (find (is_of e) known) (Plain Octets)))) h

kept_record_kind : (known : List Known) (e : ElementId) → is_record_key [] e ≡ true → record_kind known e ≡ record_kind [] e
unfolding record_kind
kept_record_kind known e key =
    let at = has_entry (entry_of e) (and_parts (is_element e) (is_key_kind (record_kind [] e)) key).1 in
    built_in_kind known e at.0 at.1 ∙ sym (built_in_kind [] e at.0 at.1)

kept_record_key : (known : List Known) (e : ElementId) → is_record_key [] e ≡ true → is_record_key known e ≡ true
unfolding record_kind
kept_record_key known e key = ap (λ (kind : Kind). is_element e && is_key_kind kind) (kept_record_kind known e key) ∙ key

-- ---- elements of context

-- they have a kind of their own
HasKind : ElementId → Type 0
HasKind e = (kind : Kind) × (context_kind e ≡ Some kind)

context_kinds : Each (λ n. HasKind (iana n)) (32768 ∷ 130 ∷ 131 ∷ 149 ∷ [])
unfolding HasKind
context_kinds = ((Ipv6, refl), ((Ipv4, refl), ((Ipv6, refl), ((Unsigned Four, refl), tt))))

has_kind : (e : ElementId) → is_context e ≡ true → HasKind e
has_kind e of = has_number HasKind (32768 ∷ 130 ∷ 131 ∷ 149 ∷ []) e context_kinds of

kept_kind : (known : List Known) (e : ElementId) → is_key [] e ≡ true → key_kind known e ≡ key_kind [] e
unfolding HasKind record_kind
kept_kind known e key =
    elim (or_cases (is_context e) (is_record_key [] e) key) as (λ _. key_kind known e ≡ key_kind [] e) [
      | inl of ↦ let kind = has_kind e of in ap (λ o. unwrap_or o (record_kind known e)) kind.1 ∙ sym (ap (λ o. unwrap_or o (record_kind [] e)) kind.1)
      | inr other ↦ ap (unwrap_or (context_kind e)) (kept_record_kind known e other)
    ]

kept_key : (known : List Known) (e : ElementId) → is_key [] e ≡ true → is_key known e ≡ true
kept_key known e key =
    elim (or_cases (is_context e) (is_record_key [] e) key) as (λ _. is_key known e ≡ true) [
      | inl of ↦ or_left (is_context e) (is_record_key known e) of
      | inr other ↦ or_right (is_context e) (is_record_key known e) (kept_record_key known e other)
    ]

-- each kind of context can be compared
comparable : (a b c d : Bool) (kind : Kind) → is_key_kind kind ≡ true
    → is_key_kind (unwrap_or (cond a (Some Ipv6) (cond b (Some Ipv4) (cond c (Some Ipv6) (cond d (Some (Unsigned Four)) None)))) kind) ≡ true
comparable true b c d kind ok = refl
comparable false true c d kind ok = refl
comparable false false true d kind ok = refl
comparable false false false true kind ok = refl
comparable false false false false kind ok = ok

Comparable : List Known → ElementId → Type 0
Comparable known e = is_key_kind (key_kind known e) ≡ true

contexts_comparable : (known : List Known) → Each (λ n. Comparable known (iana n)) (32768 ∷ 130 ∷ 131 ∷ 149 ∷ [])
unfolding Comparable
contexts_comparable known = (refl, (refl, (refl, (refl, tt))))

key_comparable : (known : List Known) (e : ElementId) → is_key known e ≡ true → is_key_kind (key_kind known e) ≡ true
unfolding Comparable record_kind
key_comparable known e key =
    elim (or_cases (is_context e) (is_record_key known e) key) as (λ _. is_key_kind (key_kind known e) ≡ true) [
      | inl of ↦ has_number (Comparable known) (32768 ∷ 130 ∷ 131 ∷ 149 ∷ []) e (contexts_comparable known) of
      | inr other ↦
          comparable (same_element e exporter) (same_element e exporter_ipv4) (same_element e exporter_ipv6) (same_element e observation_domain) (record_kind known e)
          (and_parts (is_element e) (is_key_kind (record_kind known e)) other).1
    ]

kept_counter : (known : List Known) (e : ElementId) → is_counter [] e ≡ true → is_counter known e ≡ true
kept_counter known e counter = by (is_built_in_counter e) (is_element e) (is_none (entry_of e)) counter
  where
    by : (a b c : Bool) → (a || (b && (c && false))) ≡ true → (a || (b && (c && list_any (is_delta_of e) known))) ≡ true
    by true b c counter = refl
    by false true true counter = absurd cc
    by false true false counter = absurd cc
    by false false c counter = absurd cc

-- ---- no times

-- no time has a key's kind, whatever files say
NoKey : List Known → ElementId → Type 0
NoKey known e = is_key_kind (field_kind (element_kind known e)) ≡ false

times_no_keys : (known : List Known) → Each (λ n. NoKey known (iana n)) (150 ∷ 151 ∷ 152 ∷ 153 ∷ [])
unfolding elements NoKey
times_no_keys known = (refl, (refl, (refl, (refl, tt))))

BuiltIn : ElementId → Type 0
BuiltIn e = is_none (entry_of e) ≡ false

times_built_in : Each (λ n. BuiltIn (iana n)) (150 ∷ 151 ∷ 152 ∷ 153 ∷ [])
unfolding elements BuiltIn
times_built_in = (refl, (refl, (refl, (refl, tt))))

not_both : (b : Bool) → b ≡ false → b ≡ true → ⊥
not_both b doesnt does = false≢true (sym doesnt ∙ does)

no_time : (e : ElementId) → is_element e ≡ true → (is_time e ≡ true → ⊥) → is_value e ≡ true
no_time e inside other = elim (cases_Bool (is_time e)) [
  | inl time ↦ absurd (other time)
  | inr none ↦ and_from (is_element e) (not (is_time e)) inside (ap not none)
]

record_key_is_value : (known : List Known) (e : ElementId) → is_record_key known e ≡ true → is_value e ≡ true
unfolding NoKey
record_key_is_value known e key =
    let both = and_parts (is_element e) (is_key_kind (field_kind (element_kind known e))) key in
    no_time e both.0 (λ time. not_both (is_key_kind (field_kind (element_kind known e))) (has_number (NoKey known) (150 ∷ 151 ∷ 152 ∷ 153 ∷ []) e (times_no_keys known) time) both.1)

IsKeyElement : ElementId → Type 0
IsKeyElement e = is_key_element e ≡ true

contexts_key_elements : Each (λ n. IsKeyElement (iana n)) (32768 ∷ 130 ∷ 131 ∷ 149 ∷ [])
unfolding IsKeyElement
contexts_key_elements = (refl, (refl, (refl, (refl, tt))))

pub key_is_key_element : (known : List Known) (e : ElementId) → is_key known e ≡ true → is_key_element e ≡ true
unfolding IsKeyElement
key_is_key_element known e key =
    elim (or_cases (is_context e) (is_record_key known e) key) as (λ _. is_key_element e ≡ true) [
      | inl of ↦ has_number IsKeyElement (32768 ∷ 130 ∷ 131 ∷ 149 ∷ []) e contexts_key_elements of
      | inr other ↦ or_right (same_element e exporter) (is_value e) (record_key_is_value known e other)
    ]

IsValue : ElementId → Type 0
IsValue e = is_value e ≡ true

counters_are_values : Each (λ n. IsValue (iana n)) (1 ∷ 2 ∷ 3 ∷ 23 ∷ 24 ∷ 132 ∷ 133 ∷ [])
unfolding IsValue
counters_are_values = (refl, (refl, (refl, (refl, (refl, (refl, (refl, tt)))))))

pub counter_is_value : (known : List Known) (e : ElementId) → is_counter known e ≡ true → is_value e ≡ true
unfolding IsValue BuiltIn
counter_is_value known e counter = elim (cases_Bool (is_built_in_counter e)) [
  | inl built_in ↦ has_number IsValue (1 ∷ 2 ∷ 3 ∷ 23 ∷ 24 ∷ 132 ∷ 133 ∷ []) e counters_are_values built_in
  | inr other ↦
      let of_file = is_element e && (is_none (entry_of e) && list_any (is_delta_of e) known) in
      let does : of_file ≡ true = sym (ap (λ (b : Bool). b || of_file) other) ∙ counter in
      let both = and_parts (is_element e) (is_none (entry_of e) && list_any (is_delta_of e) known) does in
      let free = (and_parts (is_none (entry_of e)) (list_any (is_delta_of e) known) both.1).0 in
      no_time e both.0 (λ time. not_both (is_none (entry_of e)) (has_number BuiltIn (150 ∷ 151 ∷ 152 ∷ 153 ∷ []) e times_built_in time) free)
]

taken_totals_are_values : Each (λ n. IsValue (iana n)) (85 ∷ 86 ∷ [])
unfolding IsValue
taken_totals_are_values = (refl, (refl, tt))

taken_total_is_value : (totals : Totals) (e : ElementId) → is_taken_total totals e ≡ true → is_value e ≡ true
unfolding IsValue
taken_total_is_value Refused e taken = absurd (false≢true taken)
taken_total_is_value AsDeltas e taken = has_number IsValue (85 ∷ 86 ∷ []) e taken_totals_are_values taken

pub may_count_is_value : (known : List Known) (totals : Totals) (e : ElementId) → may_count known totals e ≡ true → is_value e ≡ true
may_count_is_value known totals e counts =
    elim (or_cases (is_counter known e) (is_taken_total totals e) counts) as (λ _. is_value e ≡ true)
    [ inl counter ↦ counter_is_value known e counter | inr taken ↦ taken_total_is_value totals e taken ]

or_grows : (a b c : Bool) → (a ≡ true → b ≡ true) → (a || c) ≡ true → (b || c) ≡ true
or_grows a true c grows h = refl
or_grows true false c grows h = absurd (false≢true (grows refl))
or_grows false false c grows h = h

kept_count : (known : List Known) (totals : Totals) (e : ElementId) → may_count [] totals e ≡ true → may_count known totals e ≡ true
kept_count known totals e h = or_grows (is_counter [] e) (is_counter known e) (is_taken_total totals e) (kept_counter known e) h

-- ---- faults by the tests of kinds

-- the first fault, by whether the elements may be keys, and counters
abbrev fault_by : ℕ → List Key → List ElementId → ℕ → Bool → Bool → Option PlanFault
fault_by len keys counters max_spread are_keys are_counters =
    or_else (length_fault len)
    (or_else (spread_fault max_spread)
    (or_else
    (or_else (fault_unless (nat_le (length keys) 8) KeyCount)
    (or_else (fault_unless are_keys KeyKind) (fault_unless (list_all (λ k. is_prefix_of k.element k.prefix) keys) Prefix)))
    (or_else
    (or_else (fault_unless (is_between 1 4 (length counters)) CounterCount) (fault_unless are_counters CounterKind))
    (repeat_fault keys counters))))

passed_first : (first second : Option PlanFault) → or_else first second ≡ None → (first ≡ None) × (second ≡ None)
passed_first None second h = (refl, h)
passed_first (Some fault) second h = absurd cc

passed_test : (holds : Bool) (fault : PlanFault) → fault_unless holds fault ≡ None → holds ≡ true
passed_test true fault h = refl
passed_test false fault h = absurd cc

-- the tests that arguments pass
record PassedTests (which : KeyElements) (known : List Known) (choices : Choices) (len : ℕ) (keys : List Key) (counters : List ElementId) (max_spread : ℕ) : Type 0 where
  positive : nat_lt 0 len ≡ true
  spread : is_between 1 4096 max_spread ≡ true
  few : nat_le (length keys) 8 ≡ true
  kinds : list_all (λ k. may_be_key which known k.element) keys ≡ true
  prefixes : list_all (λ k. is_prefix_of k.element k.prefix) keys ≡ true
  some : is_between 1 4 (length counters) ≡ true
  counted : list_all (may_count known choices.totals) counters ≡ true
  apart : not (has_twice (elements_in Read keys counters) || has_twice (elements_in Exported keys counters)) ≡ true

passed_tests : (which : KeyElements) (known : List Known) (choices : Choices) (len : ℕ) (keys : List Key) (counters : List ElementId) (max_spread : ℕ)
    → fault_among which known choices len keys counters max_spread ≡ None → PassedTests which known choices len keys counters max_spread
passed_tests which known choices len keys counters max_spread h =
    let few = fault_unless (nat_le (length keys) 8) KeyCount in
    let kind = fault_unless (list_all (λ k. may_be_key which known k.element) keys) KeyKind in
    let prefix = fault_unless (list_all (λ k. is_prefix_of k.element k.prefix) keys) Prefix in
    let some = fault_unless (is_between 1 4 (length counters)) CounterCount in
    let count = fault_unless (list_all (may_count known choices.totals) counters) CounterKind in
    let rest = repeat_fault keys counters in
    let of_keys = or_else few (or_else kind prefix) in
    let of_counters = or_else some count in
    let after_length = passed_first (length_fault len) (or_else (spread_fault max_spread) (or_else of_keys (or_else of_counters rest))) h in
    let after_spread = passed_first (spread_fault max_spread) (or_else of_keys (or_else of_counters rest)) after_length.1 in
    let after_keys = passed_first of_keys (or_else of_counters rest) after_spread.1 in
    let in_keys = passed_first few (or_else kind prefix) after_keys.0 in
    let in_kinds = passed_first kind prefix in_keys.1 in
    let last = passed_first of_counters rest after_keys.1 in
    let in_counters = passed_first some count last.0 in
    record {
      positive = passed_test _ _ after_length.0;
      spread = passed_test _ _ after_spread.0;
      few = passed_test _ _ in_keys.0;
      kinds = passed_test _ _ in_kinds.0;
      prefixes = passed_test _ _ in_kinds.1;
      some = passed_test _ _ in_counters.0;
      counted = passed_test _ _ in_counters.1;
      apart = passed_test _ _ last.1;
    }

pub counters_counted : (known : List Known) (plan : PlanValue) → first_fault_of known plan ≡ None → list_all (may_count known plan.choices.totals) plan.counters ≡ true
counters_counted known plan none = (passed_tests WithContext known plan.choices plan.length plan.keys plan.counters plan.max_spread none).counted

-- ---- plans

pub is_plan : (known : List Known) (choices : Choices) (len : ℕ) (method : Method) (keys : List Key) (counters : List ElementId) (max_spread : ℕ)
    → chosen_fault known choices len keys counters max_spread ≡ None → IsPlan (chosen_plan known choices len method keys counters max_spread)
is_plan known choices len method keys counters max_spread h =
    let may_be : Key → Bool = λ k. is_key known k.element in
    let tests = passed_tests WithContext known choices len keys counters max_spread h in
    record {
      positive = tests.positive;
      spread = tests.spread;
      few = tests.few;
      beside = length-map keys (λ (k : Key). key_kind known k.element);
      kinds = list_all-map is_key_kind (λ (k : Key). key_kind known k.element) keys
          ∙ all_weaker may_be (λ k. is_key_kind (key_kind known k.element)) (λ k. key_comparable known k.element) keys tests.kinds;
      values = all_weaker may_be (λ k. is_key_element k.element) (λ k. key_is_key_element known k.element) keys tests.kinds;
      prefixes = tests.prefixes;
      some = tests.some;
      counters = all_weaker (may_count known choices.totals) is_value (may_count_is_value known choices.totals) counters tests.counted;
      apart = tests.apart;
    }

-- ---- what no fault fits where keys are read from the fields of records alone, none fits with context either

pub records_fault : (known : List Known) (len : ℕ) (keys : List Key) (counters : List ElementId) (max_spread : ℕ)
    → first_fault known len keys counters max_spread ≡ None → chosen_fault known basic len keys counters max_spread ≡ None
records_fault known len keys counters max_spread h =
    let tests = passed_tests OfRecords known basic len keys counters max_spread h in
    let of_keys = all_weaker (λ (k : Key). is_record_key known k.element) (λ k. is_key known k.element) (λ k. or_right (is_context k.element) (is_record_key known k.element)) keys tests.kinds in
    ap₂ (fault_by len keys counters max_spread) (of_keys ∙ sym tests.kinds) refl ∙ h

-- ---- files change none of built-in elements

pub kept_fault : (known : List Known) (choices : Choices) (len : ℕ) (keys : List Key) (counters : List ElementId) (max_spread : ℕ)
    → chosen_fault [] choices len keys counters max_spread ≡ None → chosen_fault known choices len keys counters max_spread ≡ None
kept_fault known choices len keys counters max_spread h =
    let tests = passed_tests WithContext [] choices len keys counters max_spread h in
    let of_keys = all_weaker (λ (k : Key). is_key [] k.element) (λ k. is_key known k.element) (λ k. kept_key known k.element) keys tests.kinds in
    let of_counters = all_weaker (may_count [] choices.totals) (may_count known choices.totals) (kept_count known choices.totals) counters tests.counted in
    ap₂ (fault_by len keys counters max_spread) (of_keys ∙ sym tests.kinds) (of_counters ∙ sym tests.counted) ∙ h

pub kept_kinds : (known : List Known) (choices : Choices) (len : ℕ) (keys : List Key) (counters : List ElementId) (max_spread : ℕ)
    → chosen_fault [] choices len keys counters max_spread ≡ None → KindsStay known keys
kept_kinds known choices len keys counters max_spread h =
    let tests = passed_tests WithContext [] choices len keys counters max_spread h in
    all_mapped (λ (k : Key). key_kind known k.element) (λ (k : Key). key_kind [] k.element) (λ k. is_key [] k.element) (λ k. kept_kind known k.element) keys tests.kinds

pub kept_plan : (known : List Known) (choices : Choices) (len : ℕ) (method : Method) (keys : List Key) (counters : List ElementId) (max_spread : ℕ)
    → chosen_fault [] choices len keys counters max_spread ≡ None → chosen_plan known choices len method keys counters max_spread ≡ chosen_plan [] choices len method keys counters max_spread
kept_plan known choices len method keys counters max_spread h =
    ap (λ (kinds : List Kind). plan_with len method keys kinds counters max_spread choices) (kept_kinds known choices len keys counters max_spread h)

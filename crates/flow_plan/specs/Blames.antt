-- What makes no plan of the values of a document: a value, a number of elements, or the first text that has the fault.
use Rattle.std.specs.Prelude.{◌≡◌, ℕ, ◌+◌, ◌-◌, ◌||◌, nat_lt, not, Bool, List, [], ◌∷◌, ◌++◌, length, map, Option, Some, None, option_map, Ok, if◌then◌else◌, slice_get, string_bytes}
use Rattle.std.specs.List.{list_any, position_from}
use Rattle.ipfix_wire.specs.declared.specifier.ElementId.{ElementId}
use Rattle.element_registry.specs.Registries.{Known}
use Rattle.flow_table.specs.declared.choices.Totals.{Totals}
use Rattle.flow_table.specs.declared.key.Key.{Key}
use Rattle.flow_table.specs.declared.plan_fault.PlanFault.{PlanFault}
use Rattle.flow_table.specs.declared.plan_fault.PlanFault.TheVariants.{Length, Spread, KeyCount, KeyKind, Prefix, CounterCount, CounterKind, Repeated}
use Rattle.flow_table.specs.Plans.{is_prefix_of, same_element, exported_element, is_key, may_count}
use Rattle.flow_plan.specs.declared.error.PlanKey.{PlanKey}
use Rattle.flow_plan.specs.declared.error.PlanKey.TheVariants.{IntervalMs, MaxSpread, Keys, Counters}
use Rattle.flow_plan.specs.declared.error.PlanPlace.{PlanPlace}
use Rattle.flow_plan.specs.declared.error.PlanPlace.TheVariants.{Value, Count, Text}
use Rattle.flow_plan.specs.PlanTexts.{Fields, whole_key, keys_in, counters_in}

-- ---- values and numbers of elements

-- the key whose value is out of its range
abbrev pub value_key : PlanFault → Option PlanKey
value_key Length = Some IntervalMs
value_key Spread = Some MaxSpread
value_key _ = None

-- the key that has too many elements, or too few
abbrev pub counted_key : PlanFault → Option PlanKey
counted_key KeyCount = Some Keys
counted_key CounterCount = Some Counters
counted_key _ = None

-- ---- elements

abbrev pub is_unfit_key : List Known → Key → Bool
is_unfit_key known k = not (is_key known k.element)

abbrev pub is_unfit_prefix : Key → Bool
is_unfit_prefix k = not (is_prefix_of k.element k.prefix)

abbrev pub is_unfit_counter : List Known → Totals → ElementId → Bool
is_unfit_counter known totals e = not (may_count known totals e)

-- whether two keys have one element, in the records that are read or in those that are exported
abbrev pub has_one_element : Key → Key → Bool
has_one_element a b = same_element a.element b.element || same_element (exported_element a) (exported_element b)

-- the first place, counted from n, of a key whose element one before it has
abbrev pub again_from : List Key → ℕ → List Key → Option ℕ
again_from before n [] = None
again_from before n (k ∷ ks) = if list_any (has_one_element k) before then Some n else again_from (before ++ k ∷ []) (n + 1) ks

-- the elements of a plan: the keys, and then the counters
abbrev pub elements_of : List Key → List ElementId → List Key
elements_of keys counters = keys ++ map whole_key counters

-- a place among so many keys, or among the counters after them
abbrev pub place_after : ℕ → ℕ → PlanKey × ℕ
place_after count n = if nat_lt n count then (Keys, n) else (Counters, n - count)

-- the place of the first element that has the fault: its key, and which of the key's elements it is, counted from 0
abbrev pub blamed : List Known → Totals → PlanFault → List Key → List ElementId → Option (PlanKey × ℕ)
blamed known totals KeyKind keys counters = option_map (λ n. (Keys, n)) (position_from (is_unfit_key known) 0 keys)
blamed known totals Prefix keys counters = option_map (λ n. (Keys, n)) (position_from is_unfit_prefix 0 keys)
blamed known totals CounterKind keys counters = option_map (λ n. (Counters, n)) (position_from (is_unfit_counter known totals) 0 counters)
blamed known totals Repeated keys counters = option_map (place_after (length keys)) (again_from [] 0 (elements_of keys counters))
blamed known totals _ keys counters = None

-- ---- their texts

-- the texts of a key that has elements
abbrev pub texts_at : PlanKey → Fields → List (List ℕ)
texts_at Keys f = f.keys
texts_at Counters f = f.counters
texts_at _ f = []

-- the texts of a document name these keys and counters
abbrev pub NamesAll : List Known → Fields → List Key → List ElementId → Type 0
NamesAll known f keys counters = (keys_in known f.keys ≡ Ok keys) × (counters_in known f.counters ≡ Ok counters)

-- this text of this key is the first that has the fault
abbrev pub IsBlamed : List Known → Fields → PlanFault → PlanKey → List ℕ → Type 0
IsBlamed known f fault key text =
    (keys : List Key) × (counters : List ElementId) × (n : ℕ) × NamesAll known f keys counters × (blamed known f.choices.totals fault keys counters ≡ Some (key, n))
    × (slice_get (texts_at key f) n ≡ Some text)

-- the value, the number of elements, or the text, that gives a document's values this fault
abbrev pub IsPlace : List Known → Fields → PlanFault → PlanPlace → Type 0
IsPlace known f fault (Value key) = value_key fault ≡ Some key
IsPlace known f fault (Count key count) = (counted_key fault ≡ Some key) × (count ≡ length (texts_at key f))
IsPlace known f fault (Text key text) = IsBlamed known f fault key (string_bytes text)

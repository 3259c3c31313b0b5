-- The plan that a TOML document says, by what files say of elements, beside the built-in ones.
use Rattle.std.specs.Prelude.{ℕ, ◌^◌, ◌==◌, ◌&&◌, nat_lt, Bool, true, List, [], ◌∷◌, codes, pos, Option, Some, None, option_map, option_and_then, if◌then◌else◌, Ok, Err, decimal}
use Rattle.std.specs.Option.{ok_or, option_or}
use Rattle.std.specs.List.{list_any, before_first, after_first}
use Rattle.std.specs.Str.{bytes_eq}
use Rattle.std.specs.Str.Parse.{digits_value}
use Rattle.toml.specs.Data.{Data, string, integer, Items, no_items, item, as_array, Members, no_members, member, get_member}
use Rattle.toml.specs.Parse.{parse_document}
use Rattle.ipfix_wire.specs.declared.specifier.ElementId.{ElementId}
use Rattle.element_registry.specs.Registries.{Known, element_by_name}
use Rattle.flow_table.specs.declared.key.Key.{Key}
use Rattle.flow_table.specs.declared.choices.Choices.{Choices}
use Rattle.flow_table.specs.declared.choices.Times.{Times}
use Rattle.flow_table.specs.declared.choices.Times.TheVariants as times
use Rattle.flow_table.specs.declared.choices.Totals.{Totals}
use Rattle.flow_table.specs.declared.choices.Totals.TheVariants.{Refused, AsDeltas}
use Rattle.flow_table.specs.declared.method.Method.{Method}
use Rattle.flow_table.specs.declared.method.Method.TheVariants.{Start, End, Mid, Uniform, Proportional}
use Rattle.flow_table.specs.declared.plan_fault.PlanFault.{PlanFault}
use Rattle.flow_table.specs.Plans.{PlanValue, basic, chosen_plan, chosen_fault, context_named}
use Rattle.flow_plan.specs.declared.fault.PlanTextFault.TheVariants as faults
use Rattle.flow_plan.specs.Faults.{Read, ◌>>=◌}

-- ---- the document's keys

-- a plan has these and no others
abbrev pub is_field : List ℕ → Bool
is_field name =
    list_any (bytes_eq name) (codes "interval_ms" ∷ codes "method" ∷ codes "max_spread" ∷ codes "keys" ∷ codes "counters" ∷ codes "times" ∷ codes "totals" ∷ [])

abbrev pub has_known_fields : Members → Bool
has_known_fields no_members = true
has_known_fields (member name value rest) = is_field name && has_known_fields rest

-- ---- the values of keys

-- an integer from 0 to 2^32 - 1
abbrev pub small_number : Data → Option ℕ
small_number (integer (pos n)) = if nat_lt n (2 ^ 32) then Some n else None
small_number _ = None

abbrev pub method_named : List ℕ → Option Method
method_named name =
    if bytes_eq name (codes "start") then Some Start
    else if bytes_eq name (codes "end") then Some End
    else if bytes_eq name (codes "mid") then Some Mid
    else if bytes_eq name (codes "uniform") then Some Uniform
    else if bytes_eq name (codes "proportional") then Some Proportional
    else None

abbrev pub method : Data → Option Method
method (string name) = method_named name
method _ = None

abbrev pub times_named : List ℕ → Option Times
times_named name =
    if bytes_eq name (codes "basic") then Some times.Basic
    else if bytes_eq name (codes "all") then Some times.All
    else None

abbrev pub times_in : Data → Option Times
times_in (string name) = times_named name
times_in _ = None

abbrev pub totals_named : List ℕ → Option Totals
totals_named name =
    if bytes_eq name (codes "refused") then Some Refused
    else if bytes_eq name (codes "as-deltas") then Some AsDeltas
    else None

abbrev pub totals_in : Data → Option Totals
totals_in (string name) = totals_named name
totals_in _ = None

-- items that are texts and nothing else
abbrev pub texts_in : Items → Option (List (List ℕ))
texts_in no_items = Some []
texts_in (item (string text) rest) = option_map (λ texts. text ∷ texts) (texts_in rest)
texts_in _ = None

-- an array of texts
abbrev pub texts : Data → Option (List (List ℕ))
texts value = option_and_then texts_in (as_array value)

-- a value that has to be there
abbrev pub required : {X : Type 0} → (Data → Option X) → Option Data → Read X
required kind found = ok_or found faults.Missing >>= λ value. ok_or (kind value) faults.WrongKind

-- a value that may be missing, and is then this
abbrev pub optional : {X : Type 0} → X → (Data → Option X) → Option Data → Read X
optional default kind None = Ok default
optional default kind (Some value) = ok_or (kind value) faults.WrongKind

-- ---- the names of elements

-- a decimal number from 0 to 255, without a sign or leading zeros
abbrev pub bits_in : List ℕ → Option ℕ
bits_in text = let bits = digits_value 10 text in if bytes_eq text (decimal bits) && nat_lt bits 256 then Some bits else None

abbrev pub slash : ℕ
slash = 47

abbrev pub is_slash : ℕ → Bool
is_slash b = b == slash

abbrev pub whole_key : ElementId → Key
whole_key element = record { element = element; prefix = None }

abbrev pub prefix_key : ElementId → ℕ → Key
prefix_key element bits = record { element = element; prefix = Some bits }

-- the element of a key's name: one of context, or else one that is built in or of a file
abbrev pub key_element : List Known → List ℕ → Option ElementId
key_element known name = option_or (context_named name) (element_by_name known name)

-- NAME, or NAME/BITS
abbrev pub key_named : List Known → List ℕ → Option Key
key_named known text =
    if list_any is_slash text
    then option_and_then (λ element. option_map (prefix_key element) (bits_in (after_first is_slash text))) (key_element known (before_first is_slash text))
    else option_map whole_key (key_element known text)

-- what each of a list has, if each has something
abbrev pub all_of : {A X : Type 0} → (A → Option X) → List A → Option (List X)
all_of f [] = Some []
all_of f (y ∷ ys) = option_and_then (λ x. option_map (λ xs. x ∷ xs) (all_of f ys)) (f y)

-- the keys that texts name
abbrev pub keys_in : List Known → List (List ℕ) → Read (List Key)
keys_in known texts = ok_or (all_of (key_named known) texts) faults.UnknownElement

-- the counters that texts name
abbrev pub counters_in : List Known → List (List ℕ) → Read (List ElementId)
counters_in known texts = ok_or (all_of (element_by_name known) texts) faults.UnknownElement

-- ---- the plan

-- what stands at the keys of a document
pub record Fields : Type 0 where
  pub length : ℕ
  pub method : Method
  pub max_spread : ℕ
  pub keys : List (List ℕ)
  pub counters : List (List ℕ)
  pub choices : Choices

abbrev pub fields : ℕ → Method → ℕ → List (List ℕ) → List (List ℕ) → Choices → Fields
fields length method max_spread keys counters choices =
    record { length = length; method = method; max_spread = max_spread; keys = keys; counters = counters; choices = choices }

-- the keys of a document in the order of the faults
abbrev pub fields_of : Members → Read Fields
fields_of d =
    required small_number (get_member (codes "interval_ms") d) >>= λ length.
    required method (get_member (codes "method") d) >>= λ method.
    optional 4096 small_number (get_member (codes "max_spread") d) >>= λ max_spread.
    required texts (get_member (codes "keys") d) >>= λ keys.
    required texts (get_member (codes "counters") d) >>= λ counters.
    optional basic.times times_in (get_member (codes "times") d) >>= λ times.
    optional basic.totals totals_in (get_member (codes "totals") d) >>= λ totals.
    Ok (fields length method max_spread keys counters (record { times = times; totals = totals }))

-- a plan that no fault fits
abbrev pub checked : PlanValue → Option PlanFault → Read PlanValue
checked plan None = Ok plan
checked plan (Some fault) = Err (faults.Plan fault)

-- the first fault that fits what a document says, where its texts name these keys and counters
abbrev pub fault_in : List Known → Fields → List Key → List ElementId → Option PlanFault
fault_in known f keys counters = chosen_fault known f.choices f.length keys counters f.max_spread

abbrev pub plan_of_fields : List Known → Fields → Read PlanValue
plan_of_fields known f =
    keys_in known f.keys >>= λ keys.
    counters_in known f.counters >>= λ counters.
    checked (chosen_plan known f.choices f.length f.method keys counters f.max_spread) (fault_in known f keys counters)

abbrev pub plan_of_document : List Known → Members → Read PlanValue
plan_of_document known d = if has_known_fields d then fields_of d >>= plan_of_fields known else Err faults.UnknownField

-- the plan of a text, or its first fault
abbrev pub plan_of_text : List Known → List ℕ → Read PlanValue
plan_of_text known text = ok_or (parse_document text) faults.NotToml >>= plan_of_document known

-- Where a text is no plan.
use Rattle.std.specs.Prelude.{◌≡◌, ℕ, ◌+◌, ◌==◌, ◌||◌, nat_lt, nat_le, Bool, not, List, [], ◌∷◌, take, codes, count_by, find, Option, Some, None, is_none, Ok, is_err, if◌then◌else◌, string_bytes}
use Rattle.std.specs.List.{after_last}
use Rattle.std.specs.Str.{IsUtf8, IsValidUpTo}
use Rattle.toml.specs.Data.{Data, Members, no_members, member, get_member}
use Rattle.toml.specs.Parse.{parse_document}
use Rattle.toml.specs.Errors.{IsMemory, IsWithin, span_start}
use Rattle.element_registry.specs.Registries.{Known, element_by_name}
use Rattle.flow_table.specs.Plans.{PlanValue, basic}
use Rattle.flow_plan.specs.declared.fault.PlanTextFault.{PlanTextFault}
use Rattle.flow_plan.specs.declared.fault.PlanTextFault.TheVariants as faults
use Rattle.flow_plan.specs.declared.error.PlanKey.{PlanKey}
use Rattle.flow_plan.specs.declared.error.PlanKey.TheVariants.{IntervalMs, Method, MaxSpread, Keys, Counters, Times, Totals}
use Rattle.flow_plan.specs.declared.error.PlanTextError.{PlanTextError}
use Rattle.flow_plan.specs.declared.error.PlanTextError.TheVariants.{NotUtf8, NotToml, UnknownField, Missing, WrongKind, UnknownElement, Plan, OutOfMemory}
use Rattle.flow_plan.specs.Faults.{Fails}
use Rattle.flow_plan.specs.PlanTexts.{Fields, fields_of, is_field, required, optional, small_number, method, texts, times_in, key_named, plan_of_text}
use Rattle.flow_plan.specs.Blames.{IsPlace}

-- the fault, without its place
abbrev pub fault_of : PlanTextError → PlanTextFault
fault_of (NotUtf8 line) = faults.NotToml
fault_of (NotToml error line column message) = faults.NotToml
fault_of (UnknownField key) = faults.UnknownField
fault_of (Missing key) = faults.Missing
fault_of (WrongKind key) = faults.WrongKind
fault_of (UnknownElement key text) = faults.UnknownElement
fault_of (Plan fault place) = faults.Plan fault
fault_of OutOfMemory = faults.OutOfMemory

abbrev pub key_name : PlanKey → List ℕ
key_name IntervalMs = codes "interval_ms"
key_name Method = codes "method"
key_name MaxSpread = codes "max_spread"
key_name Keys = codes "keys"
key_name Counters = codes "counters"
key_name Times = codes "times"
key_name Totals = codes "totals"

-- ---- lines and columns

abbrev pub newline : ℕ
newline = 10

-- the line of a place: 1, and 1 more for each newline before it
abbrev pub line_at : List ℕ → ℕ → ℕ
line_at octets place = count_by (λ b. b == newline) (take place octets) + 1

-- an octet of UTF-8 that is the first of a character
abbrev pub begins_character : ℕ → Bool
begins_character b = nat_lt b 128 || nat_le 192 b

-- the column after octets: 1, and 1 more for each character of their last line
abbrev pub column_after : List ℕ → ℕ
column_after octets = count_by begins_character (after_last (λ b. b == newline) octets) + 1

-- the column of a place
abbrev pub column_at : List ℕ → ℕ → ℕ
column_at octets place = column_after (take place octets)

-- ---- keys

-- the value at a key of a document
abbrev pub value_of : PlanKey → Members → Option Data
value_of key d = get_member (key_name key) d

-- the keys of a document, which ascend
abbrev pub names : Members → List (List ℕ)
names no_members = []
names (member name value rest) = name ∷ names rest

-- the first that plans don't have
abbrev pub unknown_field : Members → Option (List ℕ)
unknown_field d = find (λ name. not (is_field name)) (names d)

-- the first in the order of the faults whose value is refused
abbrev pub refused_key : Members → PlanKey
refused_key d =
    if is_err (required small_number (get_member (codes "interval_ms") d)) then IntervalMs
    else if is_err (required method (get_member (codes "method") d)) then Method
    else if is_err (optional 4096 small_number (get_member (codes "max_spread") d)) then MaxSpread
    else if is_err (required texts (get_member (codes "keys") d)) then Keys
    else if is_err (required texts (get_member (codes "counters") d)) then Counters
    else if is_err (optional basic.times times_in (get_member (codes "times") d)) then Times
    else Totals

-- ---- texts that name no element

-- the first text that names no key
abbrev pub no_key_in : List Known → List (List ℕ) → Option (List ℕ)
no_key_in known texts = find (λ text. is_none (key_named known text)) texts

-- the first text that names no counter
abbrev pub no_counter_in : List Known → List (List ℕ) → Option (List ℕ)
no_counter_in known texts = find (λ text. is_none (element_by_name known text)) texts

-- the first text that names no element, of the keys and then of the counters
abbrev pub IsUnknown : List Known → Fields → PlanKey → List ℕ → Type 0
IsUnknown known f Keys text = no_key_in known f.keys ≡ Some text
IsUnknown known f Counters text = (no_key_in known f.keys ≡ None) × (no_counter_in known f.counters ≡ Some text)
IsUnknown known f _ text = ⊥

-- ---- what an error tells

-- the key of a document, and the text, at which it is no plan, or what gives its values the fault
abbrev pub TellsKey : List Known → Members → PlanTextError → Type 0
TellsKey known d (UnknownField key) = unknown_field d ≡ Some (string_bytes key)
TellsKey known d (Missing key) = refused_key d ≡ key
TellsKey known d (WrongKind key) = refused_key d ≡ key
TellsKey known d (UnknownElement key text) = (f : Fields) × (fields_of d ≡ Ok f) × IsUnknown known f key (string_bytes text)
TellsKey known d (Plan fault place) = (f : Fields) × (fields_of d ≡ Ok f) × IsPlace known f fault place
TellsKey known d OutOfMemory = Unit {0}
TellsKey known d _ = ⊥

-- the line at which octets are no UTF-8; the line and the column at which the parser of TOML says that they are no
-- document; or the key
abbrev pub Tells : List Known → List ℕ → PlanTextError → Type 0
Tells known octets (NotUtf8 line) = (place : ℕ) × IsValidUpTo octets place × (line ≡ line_at octets place)
Tells known octets (NotToml error line column message) =
    (¬ (IsMemory error)) × IsWithin octets error × (line ≡ line_at octets (span_start error)) × (column ≡ column_at octets (span_start error))
Tells known octets OutOfMemory = Unit {0}
Tells known octets error = (d : Members) × (parse_document octets ≡ Some d) × TellsKey known d error

-- ---- what is read of octets

-- they are UTF-8, and this is their document
abbrev pub IsDocument : List ℕ → Members → Type 0
IsDocument octets d = IsUtf8 octets × (parse_document octets ≡ Some d)

-- a text is no document, and the parser of TOML says so at this line and column; or memory ran out
abbrev pub IsNoTextOfDocument : List ℕ → PlanTextError → Type 0
IsNoTextOfDocument text (NotToml error line column message) =
    (parse_document text ≡ None) × (¬ (IsMemory error)) × IsWithin text error × (line ≡ line_at text (span_start error)) × (column ≡ column_at text (span_start error))
IsNoTextOfDocument text OutOfMemory = Unit {0}
IsNoTextOfDocument text _ = ⊥

-- octets are no document: they are no UTF-8 at this line, or no document as texts
abbrev pub IsNoDocument : List ℕ → PlanTextError → Type 0
IsNoDocument octets (NotUtf8 line) = (¬ (IsUtf8 octets)) × ((place : ℕ) × IsValidUpTo octets place × (line ≡ line_at octets place))
IsNoDocument octets error = IsUtf8 octets × IsNoTextOfDocument octets error

-- they are UTF-8, and this is their plan
abbrev pub IsPlanOf : List Known → List ℕ → PlanValue → Type 0
IsPlanOf known octets plan = IsUtf8 octets × (plan_of_text known octets ≡ Ok plan)

-- the error tells its place in them, and its fault is theirs, unless memory ran out
pub record IsPlanError (known : List Known) (octets : List ℕ) (error : PlanTextError) : Type 0 where
  pub place : Tells known octets error
  pub fault : IsUtf8 octets → Fails (fault_of error) (plan_of_text known octets)
  pub not_utf8 : ¬ (IsUtf8 octets) → fault_of error ≡ faults.NotToml

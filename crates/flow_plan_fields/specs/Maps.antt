-- The maps that a plan names: each [[map]] has a name and a file.
use Rattle.std.specs.Prelude.{ℕ, ◌+◌, ◌==◌, ◌&&◌, ◌||◌, not, Bool, List, [], ◌∷◌, ◌++◌, map, length, find, codes, is_some, Option, Some, None, option_map, option_and_then, Result, Ok, Err, if◌then◌else◌, string_bytes, String}
use Rattle.std.specs.Borrow.{Bor}
use Rattle.std.specs.declared.alloc.Global.{Global}
use Rattle.std.specs.List.{list_all, list_any}
use Rattle.std.specs.Str.{bytes_eq}
use Rattle.toml.specs.Data.{Data, Members, as_array, as_str, as_table, get_member}
use Rattle.element_registry.specs.Rows.{is_name_octet}
use Rattle.flow_plan.specs.Places.{names}
use Rattle.flow_plan_fields.specs.FilteredPlans.{values_of, map_key}
use Rattle.flow_plan_fields.specs.declared.named.NamedMap.{NamedMap}
use Rattle.flow_plan_fields.specs.declared.error.MapTableFault.{MapTableFault}
use Rattle.flow_plan_fields.specs.declared.error.MapTableFault.TheVariants.{NoTable, UnknownKey, NoName, NoFile, NameTwice}

pub record MapValue : Type 0 where
  pub name : List ℕ
  pub file : List ℕ

abbrev pub map_value : NamedMap → MapValue
map_value m = record { name = string_bytes m.name; file = string_bytes m.file }

-- ---- a [[map]]

-- it has these keys and no others
abbrev pub is_map_key : List ℕ → Bool
is_map_key name = list_any (bytes_eq name) (codes "name" ∷ codes "file" ∷ [])

abbrev pub unknown_key : Members → Option (List ℕ)
unknown_key d = find (λ name. not (is_map_key name)) (names d)

-- the text of a key that was found
abbrev pub found_text : Option (Bor (String Global)) → Option (List ℕ)
found_text found = option_map (λ name. string_bytes name.now) found

abbrev pub text_at : List ℕ → Members → Option (List ℕ)
text_at key d = option_and_then as_str (get_member key d)

-- letters, digits, _ and -, one at least
abbrev pub is_map_name : List ℕ → Bool
is_map_name text = not (length text == 0) && list_all is_name_octet text

abbrev pub if_name : List ℕ → Option (List ℕ)
if_name text = if is_map_name text then Some text else None

abbrev pub name_in : Members → Option (List ℕ)
name_in d = option_and_then if_name (text_at (codes "name") d)

abbrev pub is_named : List ℕ → MapValue → Bool
is_named name m = bytes_eq m.name name

abbrev pub has_name : List ℕ → List MapValue → Bool
has_name name maps = list_any (is_named name) maps

-- the map of these values, after others, or the first fault
abbrev pub map_of : List MapValue → Option (List ℕ) → Option (List ℕ) → Result MapValue MapTableFault
map_of before None file = Err NoName
map_of before (Some name) None = Err NoFile
map_of before (Some name) (Some file) = if has_name name before then Err NameTwice else Ok (record { name = name; file = file })

abbrev pub map_of_members : List MapValue → Members → Result MapValue MapTableFault
map_of_members before d = if is_some (unknown_key d) then Err UnknownKey else map_of before (name_in d) (text_at (codes "file") d)

abbrev pub map_of_table : List MapValue → Option Members → Result MapValue MapTableFault
map_of_table before None = Err NoTable
map_of_table before (Some d) = map_of_members before d

-- the same of a value, which has to be a table
abbrev pub map_of_value : List MapValue → Data → Result MapValue MapTableFault
map_of_value before value = map_of_table before (as_table value)

-- ---- all of them

-- a fault has the place of its [[map]], counted from 1
abbrev pub placed : ℕ → Result MapValue MapTableFault → (MapValue → Result (List MapValue) (ℕ × MapTableFault)) → Result (List MapValue) (ℕ × MapTableFault)
placed place (Ok m) others = others m
placed place (Err fault) others = Err (place, fault)

-- value after value, each after the maps before it
abbrev pub maps_after : List MapValue → List Data → Result (List MapValue) (ℕ × MapTableFault)
maps_after before [] = Ok before
maps_after before (value ∷ values) = placed (length before + 1) (map_of_value before value) (λ m. maps_after (before ++ m ∷ []) values)

-- the values of an array of a document, none if it is missing, and no list if it is no array
abbrev pub array_values : Option Data → Option (List Data)
array_values None = Some []
array_values (Some value) = option_map values_of (as_array value)

abbrev pub values_at : List ℕ → Members → Option (List Data)
values_at key d = array_values (get_member key d)

abbrev pub map_values : Members → Option (List Data)
map_values d = values_at map_key d

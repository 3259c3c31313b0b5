-- The maps of files, and what is said of these files.
use Rattle.std.specs.Prelude.{◌≡◌, ℕ, List, [], ◌∷◌, map, Option, Some, None}
use Rattle.table_receipts.specs.Values.{FileValue, file_value}
use Rattle.table_receipts.specs.declared.receipt.FileReceipt.{FileReceipt}
use Rattle.flow_maps.specs.declared.maps.Maps.{Maps}
use Rattle.flow_plan_fields.specs.Keys.{map_key_value}
use Rattle.flow_plan_fields.specs.declared.named.NamedKey.{NamedKey}
use Rattle.input_sources.specs.declared.maps.LoadedMap.{LoadedMap}
use Rattle.receipt_maps.specs.declared.maps.MapsOfPlan.{MapsOfPlan}

-- a file, by its path and the text that gave its map
abbrev pub file_told : List ℕ → LoadedMap → FileValue
file_told path m = record { name = path; octets = m.octets; digest = m.sha256 }

abbrev pub files_told : List (List ℕ) → List LoadedMap → List FileValue
files_told [] loaded = []
files_told (path ∷ paths) [] = []
files_told (path ∷ paths) (m ∷ loaded) = file_told path m ∷ files_told paths loaded

-- what these files gave, with these keys
abbrev pub AreWith : List (List ℕ) → List LoadedMap → List NamedKey → Option Maps → List FileReceipt → Type 0
AreWith paths loaded keys None files = ⊥
AreWith paths loaded keys (Some maps) files =
    (maps.maps.items ≡ map (λ (m : LoadedMap). m.map) loaded)
    × (map map_key_value maps.keys.items ≡ map (λ (k : NamedKey). map_key_value k.key) keys)
    × (map file_value files ≡ files_told paths loaded)

abbrev pub AreMapsWith : List (List ℕ) → List LoadedMap → List NamedKey → MapsOfPlan → Type 0
AreMapsWith paths loaded keys m = AreWith paths loaded keys m.maps m.files.items

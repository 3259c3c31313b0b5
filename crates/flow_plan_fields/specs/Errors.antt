-- What is read of a plan's maps, or why they are none.
use Rattle.std.specs.Prelude.{◌≡◌, ℕ, ◌+◌, List, [], length, map, Option, Some, None, Result, Ok, Err, Vec}
use Rattle.std.specs.declared.alloc.Global.{Global}
use denote.Bor.{Bor}
use Rattle.toml.specs.Data.{Data, Members}
use Rattle.element_registry.specs.Registries.{Known}
use Rattle.flow_plan.specs.Places.{IsDocument, IsNoDocument}
use Rattle.flow_plan.specs.declared.error.PlanTextError.{PlanTextError}
use Rattle.flow_plan.specs.declared.error.PlanTextError.TheVariants as texts
use Rattle.flow_plan_fields.specs.Keys.{key_texts, keys_in, keys_said}
use Rattle.flow_plan_fields.specs.Maps.{MapValue, map_of_value, map_value, map_values, maps_after}
use Rattle.flow_plan_fields.specs.declared.error.MapTableFault.{MapTableFault}
use Rattle.flow_plan_fields.specs.declared.error.PlanMapsError.{PlanMapsError}
use Rattle.flow_plan_fields.specs.declared.error.PlanMapsError.TheVariants.{Document, NoMaps, Map}
use Rattle.flow_plan_fields.specs.declared.named.NamedMap.{NamedMap}
use Rattle.flow_plan_fields.specs.declared.named.PlanMaps.{PlanMaps}

-- the name and the file that make a map, or its fault
abbrev pub ReadsMap : Result MapValue MapTableFault → Result (Bor (List ℕ) × Bor (List ℕ)) MapTableFault → Type 0
ReadsMap read (Ok parts) = read ≡ Ok (record { name = parts.0.now; file = parts.1.now })
ReadsMap read (Err fault) = read ≡ Err fault

-- the map of a value that follows others, or its fault with its place; memory may run out
abbrev pub ReadsMapAt : List MapValue → Data → Result NamedMap PlanMapsError → Type 0
ReadsMapAt before value (Ok m) = map_of_value before value ≡ Ok (map_value m)
ReadsMapAt before value (Err (Map place fault)) = (place ≡ length before + 1) × (map_of_value before value ≡ Err fault)
ReadsMapAt before value (Err (Document texts.OutOfMemory)) = Unit {0}
ReadsMapAt before value (Err error) = ⊥

-- the maps of these values, or the first fault; memory may run out at any
abbrev pub ReadsMaps : Option (List Data) → Result (Vec NamedMap Global) PlanMapsError → Type 0
ReadsMaps None (Ok maps) = ⊥
ReadsMaps (Some values) (Ok maps) = maps_after [] values ≡ Ok (map map_value maps.items)
ReadsMaps values (Err (Document texts.OutOfMemory)) = Unit {0}
ReadsMaps values (Err (Document error)) = ⊥
ReadsMaps None (Err NoMaps) = Unit {0}
ReadsMaps (Some values) (Err NoMaps) = ⊥
ReadsMaps None (Err (Map place fault)) = ⊥
ReadsMaps (Some values) (Err (Map place fault)) = maps_after [] values ≡ Err (place, fault)

-- the maps of a document, and the keys that look something up in them
pub record IsReadOf (known : List Known) (d : Members) (read : PlanMaps) : Type 0 where
  pub maps : ReadsMaps (map_values d) (Ok read.maps)
  pub keys : keys_in read.keys ≡ keys_said known read.maps.items (key_texts d)

-- what is read of a document
abbrev pub ReadsDocument : List Known → Members → Result PlanMaps PlanMapsError → Type 0
ReadsDocument known d (Ok read) = IsReadOf known d read
ReadsDocument known d (Err error) = ReadsMaps (map_values d) (Err error)

-- what a text says of maps
abbrev pub ArePlanMaps : List Known → List ℕ → PlanMaps → Type 0
ArePlanMaps known octets read = (d : Members) × IsDocument octets d × IsReadOf known d read

-- octets are no document; memory may run out
abbrev pub IsNoText : List ℕ → PlanTextError → Type 0
IsNoText octets texts.OutOfMemory = Unit {0}
IsNoText octets error = IsNoDocument octets error

-- why a text says nothing of maps
abbrev pub AreNoPlanMaps : List ℕ → PlanMapsError → Type 0
AreNoPlanMaps octets (Document error) = IsNoText octets error
AreNoPlanMaps octets error = (d : Members) × IsDocument octets d × ReadsMaps (map_values d) (Err error)

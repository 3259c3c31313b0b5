-- The maps of a plan.
use Rattle.std.specs.Prelude.{◌≡◌, ◌==◌, ℕ, Bool, false, List, [], ◌∷◌, ◌++◌, map, Option, Some, None, if◌then◌else◌, string_bytes}
use Rattle.std.specs.Path.{rsplit_once, slash}
use Rattle.report_writing.specs.declared.reason.Reason.{Reason}
use Rattle.report_writing.specs.declared.status.Status.{Status}
use Rattle.report_writing.specs.declared.status.Status.TheVariants.{Well, SessionFault, NotOpened, Failed}
use Rattle.report_writing.specs.declared.verbosity.Verbosity.{Verbosity}
use Rattle.flow_plan_fields.specs.declared.named.NamedKey.{NamedKey}
use Rattle.flow_plan_fields.specs.declared.named.NamedMap.{NamedMap}
use Rattle.flow_plan_fields.specs.declared.named.PlanMaps.{PlanMaps}
use Rattle.flow_collect.specs.declared.fault.CollectFault.TheVariants.{OutOfMemory}
use Rattle.command_collect.specs.CollectLines.{collect_fault_line}
use Rattle.input_sources.specs.MapsLoaded.{AreMapsOf, TellsNoMaps}
use Rattle.input_sources.specs.declared.maps.LoadedMap.{LoadedMap}
use Rattle.receipt_maps.specs.MapsTold.{AreMapsWith}
use Rattle.receipt_maps.specs.declared.maps.MapsOfPlan.{MapsOfPlan}

-- ---- their paths

abbrev pub is_absolute : List ℕ → Bool
is_absolute [] = false
is_absolute (b ∷ path) = b == slash

abbrev pub with_slash : Option (List ℕ × List ℕ) → List ℕ
with_slash None = []
with_slash (Some split) = split.0 ++ slash ∷ []

-- a path up to its last slash
abbrev pub folder_of : List ℕ → List ℕ
folder_of path = with_slash (rsplit_once slash path)

-- a file that is named from the folder of another one
abbrev pub path_from : List ℕ → List ℕ → List ℕ
path_from other file = if is_absolute file then file else folder_of other ++ file

-- the files of maps are named from the plan's folder
abbrev pub map_paths : List ℕ → List NamedMap → List (List ℕ)
map_paths plan maps = map (λ (m : NamedMap). path_from plan (string_bytes m.file)) maps

module _ (Has : List ℕ → List ℕ → Type 0) (plan : List ℕ) where
  -- of a plan that names none there are none; else each path has a text that gave its map, and that is what is said of its file
  abbrev pub AreMapsIn : List NamedMap → List NamedKey → MapsOfPlan → Type 0
  AreMapsIn [] keys m = (m.maps ≡ None) × (m.files.items ≡ [])
  AreMapsIn (first ∷ rest) keys m =
      (loaded : List LoadedMap) × AreMapsOf Has (map_paths plan (first ∷ rest)) loaded × AreMapsWith (map_paths plan (first ∷ rest)) loaded keys m

  abbrev pub AreMapsOfPlan : PlanMaps → MapsOfPlan → Type 0
  AreMapsOfPlan named m = AreMapsIn named.maps.items named.keys.items m

  -- the first file that gives no map was told, or that there was no memory
  abbrev pub HasNoMaps : (List ℕ → Reason → Type 0) → PlanMaps → Verbosity → (List ℕ → Type 0) → Status → Type 0
  HasNoMaps Refuses named verbosity AreTold NotOpened = TellsNoMaps Has Refuses verbosity (map_paths plan named.maps.items) AreTold
  HasNoMaps Refuses named verbosity AreTold Failed = AreTold (collect_fault_line OutOfMemory)
  HasNoMaps Refuses named verbosity AreTold Well = ⊥
  HasNoMaps Refuses named verbosity AreTold SessionFault = ⊥

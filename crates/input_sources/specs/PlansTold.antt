-- What is told of a path that has no plan, and what is loaded of one that has.
use Rattle.std.specs.Prelude.{◌≡◌, ◌⊎◌, ℕ, List, codes, Ok}
use Rattle.element_registry.specs.Faults.{Fails}
use Rattle.element_registry.specs.Registries.{Known}
use Rattle.element_registry.specs.declared.fault.ElementsFault.{ElementsFault}
use Rattle.flow_plan_fields.specs.FilteredErrors.{IsFilteredPlanError}
use Rattle.flow_plan_fields.specs.FilteredPlans.{IsFilteredPlanOf}
use Rattle.flow_plan_fields.specs.declared.filtered_plan.FilteredPlan.{FilteredPlan}
use Rattle.flow_plan_fields.specs.declared.place.FilteredPlanError.{FilteredPlanError}
use Rattle.flow_plan_fields.specs.Tables.{IsNoTablePlan, IsTablePlan}
use Rattle.flow_plan_fields.specs.declared.scaling.ScalingFault.{ScalingFault}
use Rattle.flow_plan_fields.specs.declared.table_plans.TablePlan.{TablePlan}
use Rattle.flow_plan_fields.specs.Errors.{AreNoPlanMaps, ArePlanMaps}
use Rattle.flow_plan_fields.specs.Keys.{KeyValue, keys_in}
use Rattle.flow_plan_fields.specs.Known.{with_keys}
use Rattle.flow_plan_fields.specs.declared.error.PlanMapsError.{PlanMapsError}
use Rattle.flow_plan_fields.specs.declared.named.PlanMaps.{PlanMaps}
use Rattle.report_writing.specs.OpeningLines.{not_had_lines}
use Rattle.input_sources.specs.MapLines.{key_lines, map_lines}
use Rattle.input_sources.specs.ScalingLines.{scaling_lines}
use Rattle.input_sources.specs.WhereLines.{filtered_lines}
use Rattle.report_writing.specs.declared.reason.Reason.{Reason}
use Rattle.report_writing.specs.declared.verbosity.Verbosity.{Verbosity}
use Rattle.input_sources.specs.declared.loaded_plan.LoadedPlan.{LoadedPlan}

abbrev pub keys_of : PlanMaps → List KeyValue
keys_of maps = keys_in maps.keys

-- the maps of a text, and the plan of its table: the plan that it says is read with the keys of the maps beside the elements
pub record IsLoaded (known : List Known) (octets : List ℕ) (maps : PlanMaps) (table : TablePlan) : Type 0 where
  pub maps_are : ArePlanMaps known octets maps
  pub named : List Known
  pub with : with_keys known (keys_of maps) ≡ Ok named
  pub said : FilteredPlan
  pub plan : IsFilteredPlanOf named octets said
  pub is_of : IsTablePlan named said table

-- what it holds as the plan of a table
abbrev pub table_of : LoadedPlan → TablePlan
table_of loaded = record { elements = loaded.elements; read = loaded.read; estimates = loaded.estimates }

-- the same of a plan that was loaded, which has these maps and is that of this table
abbrev pub IsLoadedPlan : List Known → List ℕ → LoadedPlan → Type 0
IsLoadedPlan known octets loaded = IsLoaded known octets loaded.maps (table_of loaded)

-- why a text is no plan, which is told: by what it says of maps; by their keys; by what it says of the plan; or since its
-- counters can't be scaled
abbrev pub TellsNoText : List Known → List ℕ → (List ℕ → Type 0) → Type 0
TellsNoText known octets AreTold =
    ((error : PlanMapsError) × AreNoPlanMaps octets error × AreTold (map_lines known error))
    ⊎ (((maps : PlanMaps) × ArePlanMaps known octets maps × ((fault : ElementsFault) × Fails fault (with_keys known (keys_of maps)) × AreTold (key_lines fault)))
    ⊎ (((maps : PlanMaps) × ArePlanMaps known octets maps × ((more : List Known) × (with_keys known (keys_of maps) ≡ Ok more) × ((error : FilteredPlanError) × IsFilteredPlanError more octets error × AreTold (filtered_lines more error))))
    ⊎ ((maps : PlanMaps) × ArePlanMaps known octets maps × ((more : List Known) × (with_keys known (keys_of maps) ≡ Ok more)
    × ((said : FilteredPlan) × IsFilteredPlanOf more octets said × ((fault : ScalingFault) × IsNoTablePlan more said fault × AreTold (scaling_lines fault)))))))

-- no text of the path can be had, and that is reported; or the text that it has is no plan, and why is told
abbrev pub TellsNoPlan : List Known → (List ℕ → Type 0) → (Reason → Type 0) → Verbosity → List ℕ → (List ℕ → Type 0) → Type 0
TellsNoPlan known Has Refuses verbosity path AreTold =
    ((reason : Reason) × Refuses reason × AreTold (not_had_lines verbosity (codes "open") path reason))
    ⊎ ((octets : List ℕ) × Has octets × TellsNoText known octets AreTold)

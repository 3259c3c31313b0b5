-- Why a text is no plan with a filter, and where.
use Rattle.std.specs.Prelude.{◌≡◌, ℕ, ◌+◌, List, take, codes, Option, Some, None, Result, Ok, Err, Vec, slice_get}
use Rattle.std.specs.declared.alloc.Global.{Global}
use Rattle.toml.specs.Data.{Data, Items, Members, as_array, get_member}
use Rattle.element_registry.specs.Registries.{Known}
use Rattle.flow_filter.specs.declared.condition.Condition.{Condition}
use Rattle.flow_filter.specs.declared.filter.Filter.{Filter}
use Rattle.flow_table.specs.Plans.{PlanValue}
use Rattle.flow_plan.specs.Faults as faults
use Rattle.flow_plan.specs.Faults.{Fails}
use Rattle.flow_plan.specs.Places.{fault_of, IsDocument, IsNoDocument, TellsKey}
use Rattle.flow_plan.specs.PlanTexts.{plan_of_document}
use Rattle.flow_plan.specs.declared.error.PlanTextError.{PlanTextError}
use Rattle.flow_plan.specs.declared.error.PlanTextError.TheVariants as texts
use Rattle.flow_plan_fields.specs.Wheres.{IsNoWhere}
use Rattle.flow_plan_fields.specs.FilteredPlans.{values_of, where_key, plan_members, sampling_key, sampling_of, AreConditions, IsFilterOf}
use Rattle.flow_plan_fields.specs.declared.place.FilteredPlanError.{FilteredPlanError}
use Rattle.flow_plan_fields.specs.declared.place.FilteredPlanError.TheVariants.{Plan, NoConditions, Where, NoSampling}
use Rattle.flow_plan_fields.specs.declared.place.WhereFault.{WhereFault}
use Rattle.flow_plan_fields.specs.declared.place.WhereFault.TheVariants.{OutOfMemory}

abbrev pub number_of : FilteredPlanError → ℕ
number_of (Plan error) = faults.number_of (fault_of error)
number_of NoConditions = 8
number_of (Where place fault) = 8
number_of NoSampling = 10

abbrev pub name_of : FilteredPlanError → List ℕ
name_of (Plan error) = faults.name_of (fault_of error)
name_of NoConditions = codes "Filter"
name_of (Where place fault) = codes "Filter"
name_of NoSampling = codes "Sampling"

-- ---- conditions

-- the value at this place, counted from 1, has this fault, and those before it make conditions
pub record IsFirstFault (known : List Known) (values : List Data) (place : ℕ) (fault : WhereFault) : Type 0 where
  pub before : ℕ
  pub place_is : place ≡ before + 1
  pub value : Data
  pub here : slice_get values before ≡ Some value
  pub faulty : IsNoWhere known value fault
  pub said : List Condition
  pub others : AreConditions known (take before values) said

-- the fault with its place; memory that ran out has none
abbrev pub PlacesFault : ℕ → WhereFault → FilteredPlanError → Type 0
PlacesFault place OutOfMemory error = error ≡ Plan texts.OutOfMemory
PlacesFault place fault error = error ≡ Where place fault

-- what makes no conditions of these values; memory may run out at any
abbrev pub AreNoConditions : List Known → List Data → FilteredPlanError → Type 0
AreNoConditions known values (Plan texts.OutOfMemory) = Unit {0}
AreNoConditions known values (Where place OutOfMemory) = ⊥
AreNoConditions known values (Where place fault) = IsFirstFault known values place fault
AreNoConditions known values error = ⊥

abbrev pub ReadsConditions : List Known → List Data → Result (Vec Condition Global) FilteredPlanError → Type 0
ReadsConditions known values (Ok conditions) = AreConditions known values conditions.items
ReadsConditions known values (Err error) = AreNoConditions known values error

-- what makes no filter of the value of `where`
abbrev pub IsNoFilter : List Known → Option Data → FilteredPlanError → Type 0
IsNoFilter known value (Plan texts.OutOfMemory) = Unit {0}
IsNoFilter known (Some value) NoConditions = as_array value ≡ None
IsNoFilter known (Some value) error = (items : Items) × (as_array value ≡ Some items) × AreNoConditions known (values_of items) error
IsNoFilter known None error = ⊥

abbrev pub ReadsFilter : List Known → Option Data → Result Filter FilteredPlanError → Type 0
ReadsFilter known value (Ok filter) = IsFilterOf known value filter
ReadsFilter known value (Err error) = IsNoFilter known value error

-- ---- the whole

-- octets are no document; or what their document has but for `where`, `map` and `sampling` is no plan, and its fault comes first
abbrev pub IsNoPlan : List Known → List ℕ → PlanTextError → Type 0
IsNoPlan known octets (texts.NotUtf8 line) = IsNoDocument octets (texts.NotUtf8 line)
IsNoPlan known octets (texts.NotToml error line column message) = IsNoDocument octets (texts.NotToml error line column message)
IsNoPlan known octets texts.OutOfMemory = Unit {0}
IsNoPlan known octets error =
    (d : Members) × IsDocument octets d × Fails (fault_of error) (plan_of_document known (plan_members d)) × TellsKey known (plan_members d) error

-- what has this fault: the plan; or the filter of a text that has a plan; or what one that has both says of sampling
abbrev pub IsFilteredPlanError : List Known → List ℕ → FilteredPlanError → Type 0
IsFilteredPlanError known octets (Plan error) = IsNoPlan known octets error
IsFilteredPlanError known octets NoSampling =
    (d : Members) × (plan : PlanValue) × (filter : Filter) × IsDocument octets d × (plan_of_document known (plan_members d) ≡ Ok plan)
    × IsFilterOf known (get_member where_key d) filter × (sampling_of (get_member sampling_key d) ≡ None)
IsFilteredPlanError known octets error =
    (d : Members) × (plan : PlanValue) × IsDocument octets d × (plan_of_document known (plan_members d) ≡ Ok plan) × IsNoFilter known (get_member where_key d) error

-- The plan of a table: the one that a text says, or where counters are scaled the one that counts their estimates.
use Rattle.std.specs.Prelude.{◌≡◌, ℕ, List, Option, Some, None}
use Rattle.element_registry.specs.Registries.{Known}
use Rattle.flow_estimates.specs.declared.estimates.Estimates.{Estimates}
use Rattle.flow_plan_fields.specs.FilteredPlans.{IsFilteredPlanOf}
use Rattle.flow_plan_fields.specs.declared.filtered_plan.FilteredPlan.{FilteredPlan}
use Rattle.flow_plan_fields.specs.declared.sampling.SamplingUse.{SamplingUse}
use Rattle.flow_plan_fields.specs.declared.sampling.SamplingUse.TheVariants.{Scale}
use Rattle.flow_table.specs.Plans.{PlanValue}
use Rattle.flow_plan_fields.specs.Scaled.{IsNotScaled, IsScaled}
use Rattle.flow_plan_fields.specs.declared.scaling.ScalingFault.{ScalingFault}
use Rattle.flow_plan_fields.specs.declared.table_plans.TablePlan.{TablePlan}

-- by what becomes of sampling
abbrev pub ScalesAs : SamplingUse → List Known → PlanValue → List Known → PlanValue → Option Estimates → Type 0
ScalesAs Scale named said more plan None = ⊥
ScalesAs Scale named said more plan (Some estimates) = IsScaled named said (record { elements = more; plan = plan; estimates = estimates })
ScalesAs word named said more plan estimates = (more ≡ named) × (plan ≡ said) × (estimates ≡ None)

pub record IsTablePlan (named : List Known) (said : FilteredPlan) (t : TablePlan) : Type 0 where
  pub filter_is : t.read.filter ≡ said.filter
  pub sampling_is : t.read.sampling ≡ said.sampling
  pub plan_is : ScalesAs said.sampling named said.plan t.elements t.read.plan t.estimates

abbrev pub IsNoTablePlan : List Known → FilteredPlan → ScalingFault → Type 0
IsNoTablePlan named said fault = (said.sampling ≡ Scale) × IsNotScaled named said.plan fault

-- some text says the plan that it is of
abbrev pub IsSaid : List Known → FilteredPlan → Option Estimates → Type 0
IsSaid known read estimates =
    ∥ ((octets : List ℕ) × (named : List Known) × (said : FilteredPlan) × IsFilteredPlanOf named octets said
    × IsTablePlan named said (record { elements = known; read = read; estimates = estimates })) ∥₁

-- What an error of a part tells is what an error of the whole tells.
use Rattle.std.proofs.Common.{◌≡◌, ℕ, List, Option, None, Some, Ok}
use Rattle.toml.specs.Data.{Data, Members, get_member}
use Rattle.element_registry.specs.Registries.{Known}
use Rattle.flow_table.specs.Plans.{PlanValue}
use Rattle.flow_plan.specs.Faults.{Fails}
use Rattle.flow_plan.specs.Places.{fault_of, IsDocument, IsNoDocument, TellsKey}
use Rattle.flow_plan.specs.PlanTexts.{plan_of_document}
use Rattle.flow_plan.specs.declared.error.PlanTextError.{PlanTextError}
use Rattle.flow_plan.specs.declared.error.PlanTextError.TheVariants.{NotUtf8, NotToml, OutOfMemory}
use Rattle.flow_plan_fields.specs.FilteredErrors.{IsFilteredPlanError, IsNoFilter, IsNoPlan}
use Rattle.flow_filter.specs.declared.filter.Filter.{Filter}
use Rattle.flow_plan_fields.specs.FilteredPlans.{where_key, plan_members, sampling_key, sampling_of, IsFilterOf}
use Rattle.flow_plan_fields.specs.declared.place.FilteredPlanError.{FilteredPlanError}
use Rattle.flow_plan_fields.specs.declared.place.FilteredPlanError.TheVariants.{Plan, NoSampling}

pub of_document : (known : List Known) (octets : List ℕ) (e : PlanTextError) → IsNoDocument octets e → IsNoPlan known octets e
of_document known octets (NotUtf8 line) h = h
of_document known octets (NotToml error line column message) h = h
of_document known octets OutOfMemory h = tt
of_document known octets e h = absurd h.1

pub of_members : (known : List Known) (octets : List ℕ) (d : Members) (e : PlanTextError) → IsDocument octets d → Fails (fault_of e) (plan_of_document known (plan_members d)) → TellsKey known (plan_members d) e → IsNoPlan known octets e
of_members known octets d (NotUtf8 line) is f t = absurd t
of_members known octets d (NotToml error line column message) is f t = absurd t
of_members known octets d OutOfMemory is f t = tt
of_members known octets d e is f t = (d, is, f, t)

of_memory : (known : List Known) (octets : List ℕ) (value : Option Data) (e : PlanTextError) → IsNoFilter known value (Plan e) → IsNoPlan known octets e
of_memory known octets value OutOfMemory h = tt
of_memory known octets (Some v) e h = absurd h.2
of_memory known octets None e h = absurd h

of_no_filter : (known : List Known) (value : Option Data) → IsNoFilter known value NoSampling → ⊥
of_no_filter known (Some v) h = h.2
of_no_filter known None h = h

pub of_filter : (known : List Known) (octets : List ℕ) (d : Members) (plan : PlanValue) (e : FilteredPlanError) → IsDocument octets d → plan_of_document known (plan_members d) ≡ Ok plan → IsNoFilter known (get_member where_key d) e
    → IsFilteredPlanError known octets e
of_filter known octets d plan (Plan e) is plan_is h = of_memory known octets (get_member where_key d) e h
of_filter known octets d plan NoSampling is plan_is h = absurd (of_no_filter known (get_member where_key d) h)
of_filter known octets d plan e is plan_is h = (d, plan, is, plan_is, h)

pub of_sampling : (known : List Known) (octets : List ℕ) (d : Members) (plan : PlanValue) (filter : Filter) → IsDocument octets d → plan_of_document known (plan_members d) ≡ Ok plan → IsFilterOf known (get_member where_key d) filter
    → sampling_of (get_member sampling_key d) ≡ None → IsFilteredPlanError known octets NoSampling
of_sampling known octets d plan filter is plan_is filter_is none = (d, plan, filter, is, plan_is, filter_is, none)

-- What a plan counts where counters are scaled: their estimates.
use Rattle.std.specs.Prelude.{◌≡◌, ℕ, ◌+◌, ◌%◌, ◌^◌, ◌==◌, ◌&&◌, ◌||◌, nat_lt, Bool, false, true, if◌then◌else◌, List, [], ◌∷◌, ◌++◌, map, codes, Option, Some, None, unwrap_or, Result, Ok}
use Rattle.std.specs.List.{flat_map, list_all}
use Rattle.ipfix_wire.specs.declared.specifier.ElementId.{ElementId}
use Rattle.ipfix_elements.specs.Elements.{iana}
use Rattle.ipfix_elements.specs.declared.kind.Kind.TheVariants.{Unsigned}
use Rattle.ipfix_elements.specs.declared.kind.Width.TheVariants.{Eight}
use Rattle.element_registry.specs.Faults.{Fails, Gives, Read}
use Rattle.element_registry.specs.Files.{with_entry}
use Rattle.element_registry.specs.Registries.{Known, listed_name}
use Rattle.element_registry.specs.Rows.{and_then}
use Rattle.element_registry.specs.declared.fault.ElementsFault.{ElementsFault}
use Rattle.element_registry.specs.declared.kind.ElementKind.TheVariants.{Plain}
use Rattle.flow_estimates.specs.declared.estimates.Estimate.{Estimate}
use Rattle.flow_plan_fields.specs.declared.named.TheConstants.{EXAMPLES_PEN}
use Rattle.flow_table.specs.Plans.{PlanValue, same_element, chosen_fault, chosen_plan}
use Rattle.flow_table.specs.declared.plan_fault.PlanFault.{PlanFault}
use Rattle.flow_plan_fields.specs.declared.scaling.ScaledPlan.{ScaledPlan}
use Rattle.flow_plan_fields.specs.declared.scaling.ScalingFault.{ScalingFault}
use Rattle.flow_plan_fields.specs.declared.scaling.ScalingFault.TheVariants.{Counter, Elements, Plan, OutOfMemory}

-- ---- elements

-- deltaFlowCount is a number of flows, and stays
abbrev pub stays : ElementId → Bool
stays c = same_element c (iana 3)

-- an element of IANA's, whose number leaves room for that of its estimate
abbrev pub is_estimable : ElementId → Bool
is_estimable c = stays c || ((c.pen == 0) && nat_lt c.number 31768)

-- the estimate of element n has the number 1000 + n under an enterprise that has numbers for examples (RFC 5612)
abbrev pub estimated : ElementId → ElementId
estimated c = record { pen = EXAMPLES_PEN; number = (c.number + 1000) % 2 ^ 16 }

-- what a plan counts in place of a counter
abbrev pub scaled : ElementId → ElementId
scaled c = if stays c then c else estimated c

-- the estimates that it wants
abbrev pub estimate_of : ElementId → List Estimate
estimate_of c = if stays c then [] else record { counter = c; element = estimated c } ∷ []

abbrev pub estimates_of : List ElementId → List Estimate
estimates_of counters = flat_map estimate_of counters

-- ---- their names

abbrev pub estimate_name : List ℕ → List ℕ
estimate_name name = name ++ codes "_estimated"

-- a counter of 64 bits, named after its counter
abbrev pub known_estimate : List Known → Estimate → Known
known_estimate known key =
    record { element = estimated key.counter; name = estimate_name (unwrap_or (listed_name known key.counter) []); kind = Plain (Unsigned Eight); is_delta = true }

-- one more estimate
abbrev pub with_estimate : List Known → Estimate → Read (List Known)
with_estimate known key = with_entry known (known_estimate known key)

-- estimate after estimate
abbrev pub with_estimates : List Known → List Estimate → Read (List Known)
with_estimates known [] = Ok known
with_estimates known (key ∷ keys) = and_then (with_estimate known key) (λ more. with_estimates more keys)

-- what is known with them, or the fault of the first that can't be
abbrev pub AddsEstimates : List Known → List Estimate → Result (List Known) ElementsFault → Type 0
AddsEstimates known keys result = Gives (λ more. more) result (with_estimates known keys)

-- ---- the plan

abbrev pub are_estimable : List ElementId → Bool
are_estimable counters = list_all is_estimable counters

-- a plan with these counters in place of its own, and the first fault of it
abbrev pub plan_counting : List Known → PlanValue → List ElementId → PlanValue
plan_counting known plan counters = chosen_plan known plan.choices plan.length plan.method plan.keys counters plan.max_spread

abbrev pub counting_fault : List Known → PlanValue → List ElementId → Option PlanFault
counting_fault known plan counters = chosen_fault known plan.choices plan.length plan.keys counters plan.max_spread

-- the plan that counts estimates
abbrev pub scaled_plan : List Known → PlanValue → PlanValue
scaled_plan known plan = plan_counting known plan (map scaled plan.counters)

-- the elements with the names of the estimates, the estimates, and the plan that counts these and has no fault
pub record IsScaled (known : List Known) (plan : PlanValue) (s : ScaledPlan) : Type 0 where
  pub estimable : are_estimable plan.counters ≡ true
  pub keys_are : s.estimates.keys.items ≡ estimates_of plan.counters
  pub with : with_estimates known (estimates_of plan.counters) ≡ Ok s.elements
  pub plan_is : s.plan ≡ scaled_plan s.elements plan
  pub faultless : counting_fault s.elements plan (map scaled plan.counters) ≡ None

-- the first of what makes none of it
abbrev pub IsNotScaled : List Known → PlanValue → ScalingFault → Type 0
IsNotScaled known plan Counter = are_estimable plan.counters ≡ false
IsNotScaled known plan (Elements fault) = Fails fault (with_estimates known (estimates_of plan.counters))
IsNotScaled known plan (Plan fault) =
    (more : List Known) × (with_estimates known (estimates_of plan.counters) ≡ Ok more)
    × (counting_fault more plan (map scaled plan.counters) ≡ Some fault)
IsNotScaled known plan OutOfMemory = Unit {0}

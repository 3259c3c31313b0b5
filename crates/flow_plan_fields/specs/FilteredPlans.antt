-- The plan and the filter of a text.
use Rattle.std.specs.Prelude.{◌≡◌, ℕ, ◌||◌, Bool, cond, List, [], ◌∷◌, codes, Option, Some, None, Ok, if◌then◌else◌}
use Rattle.std.specs.List.{AllZip, flat_map, list_any}
use Rattle.std.specs.Str.{bytes_eq}
use Rattle.toml.specs.Data.{Data, string, Items, no_items, item, Members, no_members, member, as_array, get_member, same_key}
use Rattle.ipfix_wire.specs.declared.specifier.ElementId.{ElementId}
use Rattle.element_registry.specs.Registries.{Known}
use Rattle.flow_filter.specs.declared.condition.Condition.{Condition}
use Rattle.flow_filter.specs.declared.filter.Filter.{Filter}
use Rattle.flow_table.specs.Plans.{same_element, context_of as context_of_plan}
use Rattle.flow_table.specs.declared.context.Context.{Context}
use Rattle.flow_table.specs.declared.context.TheConstants.{EXPORTER, EXPORTER_IPV4_ADDRESS, EXPORTER_IPV6_ADDRESS, OBSERVATION_DOMAIN_ID}
use Rattle.flow_plan.specs.Places.{IsDocument}
use Rattle.flow_plan.specs.PlanTexts.{plan_of_document}
use Rattle.flow_plan_fields.specs.Wheres.{conditions_of, IsWhere}
use Rattle.flow_plan_fields.specs.declared.place.Sides.{Sides}
use Rattle.flow_plan_fields.specs.declared.filtered_plan.FilteredPlan.{FilteredPlan}
use Rattle.flow_plan_fields.specs.declared.sampling.SamplingUse.{SamplingUse}
use Rattle.flow_plan_fields.specs.declared.sampling.SamplingUse.TheVariants.{Ignore, Refuse, Scale}

-- ---- the conditions of a document

abbrev pub values_of : Items → List Data
values_of no_items = []
values_of (item d ds) = d ∷ values_of ds

-- each value is a [[where]], and these are the conditions of all, in their order
abbrev pub AreConditions : List Known → List Data → List Condition → Type 0
AreConditions known values conditions = (all : List Sides) × AllZip (IsWhere known) values all × (conditions ≡ flat_map conditions_of all)

-- the conditions of the value of `where`: none if there is none
abbrev pub IsFilterOf : List Known → Option Data → Filter → Type 0
IsFilterOf known None filter = filter.conditions.items ≡ []
IsFilterOf known (Some value) filter = (items : Items) × (as_array value ≡ Some items) × AreConditions known (values_of items) filter.conditions.items

-- ---- what becomes of sampling

abbrev pub sampling_named : List ℕ → Option SamplingUse
sampling_named name =
    if bytes_eq name (codes "ignore") then Some Ignore
    else if bytes_eq name (codes "refuse") then Some Refuse
    else if bytes_eq name (codes "scale") then Some Scale
    else None

abbrev pub sampling_in : Data → Option SamplingUse
sampling_in (string name) = sampling_named name
sampling_in _ = None

-- a value that may be missing: then it is ignored
abbrev pub sampling_of : Option Data → Option SamplingUse
sampling_of None = Some Ignore
sampling_of (Some value) = sampling_in value

-- ---- the whole

-- the members but for the first with this key
abbrev pub without : List ℕ → Members → Members
without key no_members = no_members
without key (member name value d) = cond (same_key key name) d (member name value (without key d))

abbrev pub where_key : List ℕ
where_key = codes "where"

abbrev pub map_key : List ℕ
map_key = codes "map"

abbrev pub sampling_key : List ℕ
sampling_key = codes "sampling"

-- those of the plan itself: the maps were read before
abbrev pub plan_members : Members → Members
plan_members d = without sampling_key (without map_key (without where_key d))

-- the plan is that of the members but for `where`, `map` and `sampling`, and the filter is that of its value
pub record IsFilteredPlanOf (known : List Known) (octets : List ℕ) (read : FilteredPlan) : Type 0 where
  pub d : Members
  pub document : IsDocument octets d
  pub plan : plan_of_document known (plan_members d) ≡ Ok read.plan
  pub filter : IsFilterOf known (get_member where_key d) read.filter
  pub sampling : sampling_of (get_member sampling_key d) ≡ Some read.sampling

-- some text says them, where these files name elements
abbrev pub IsReadWith : List Known → FilteredPlan → Type 0
IsReadWith known read = ∥ ((octets : List ℕ) × IsFilteredPlanOf known octets read) ∥₁

-- ---- what it names

-- a condition is of this element
abbrev pub names : Filter → ElementId → Bool
names f e = list_any (λ (c : Condition). same_element c.element e) f.conditions.items

-- the elements of context that its keys or its conditions name
abbrev pub context_of : FilteredPlan → Context
context_of read =
    let keys = context_of_plan read.plan in
    record {
      exporter = keys.exporter || names read.filter EXPORTER;
      exporter_ipv4_address = keys.exporter_ipv4_address || names read.filter EXPORTER_IPV4_ADDRESS;
      exporter_ipv6_address = keys.exporter_ipv6_address || names read.filter EXPORTER_IPV6_ADDRESS;
      observation_domain_id = keys.observation_domain_id || names read.filter OBSERVATION_DOMAIN_ID;
    }

abbrev pub if_any : List Condition → Filter → Option Filter
if_any [] f = None
if_any (c ∷ cs) f = Some f

-- the filter, if it has a condition
abbrev pub filter_of : FilteredPlan → Option Filter
filter_of read = if_any read.filter.conditions.items read.filter

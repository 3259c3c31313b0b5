-- What a plan wants to be known beside its records.
use Rattle.std.specs.Prelude.{◌||◌, Bool, true, false, List}
use Rattle.std.specs.List.{list_any}
use Rattle.ipfix_wire.specs.declared.specifier.ElementId.{ElementId}
use Rattle.flow_table.specs.Plans.{same_element}
use Rattle.flow_table.specs.declared.context.Context.{Context}
use Rattle.flow_table.specs.declared.context.TheConstants.{EXPORTER, EXPORTER_IPV4_ADDRESS, EXPORTER_IPV6_ADDRESS}
use Rattle.exporter_options.specs.declared.beside.Wanted.{Wanted}
use Rattle.flow_table.specs.declared.choices.Times.{Times}
use Rattle.flow_table.specs.declared.choices.Times.TheVariants.{Basic, All}
use Rattle.flow_plan_fields.specs.FilteredPlans.{context_of}
use Rattle.flow_plan_fields.specs.declared.filtered_plan.FilteredPlan.{FilteredPlan}
use Rattle.flow_plan_fields.specs.declared.sampling.SamplingUse.{SamplingUse}
use Rattle.flow_plan_fields.specs.declared.sampling.SamplingUse.TheVariants.{Ignore, Refuse, Scale}
use Rattle.flow_maps.specs.declared.map_key.AddressElement.{AddressElement}
use Rattle.flow_plan_fields.specs.declared.named.NamedKey.{NamedKey}
use Rattle.flow_plan_fields.specs.declared.named.PlanMaps.{PlanMaps}

abbrev pub is_among : ElementId → List AddressElement → Bool
is_among e addresses = list_any (λ (a : AddressElement). same_element a.element e) addresses

-- a key of maps looks this element up
abbrev pub looks_up : PlanMaps → ElementId → Bool
looks_up maps e = list_any (λ (k : NamedKey). is_among e k.key.addresses.items) maps.keys.items

-- the elements of context that its keys or its conditions name, or that its maps look up: observationDomainId is no address
abbrev pub wanted_context : FilteredPlan → PlanMaps → Context
wanted_context read maps =
    let named = context_of read in
    record {
      exporter = named.exporter || looks_up maps EXPORTER;
      exporter_ipv4_address = named.exporter_ipv4_address || looks_up maps EXPORTER_IPV4_ADDRESS;
      exporter_ipv6_address = named.exporter_ipv6_address || looks_up maps EXPORTER_IPV6_ADDRESS;
      observation_domain_id = named.observation_domain_id;
    }

-- only times of every kind count from when the exporter was started
abbrev pub count_from_init_time : Times → Bool
count_from_init_time Basic = false
count_from_init_time All = true

-- rates are of interest unless they are ignored
abbrev pub are_asked : SamplingUse → Bool
are_asked Ignore = false
are_asked Refuse = true
are_asked Scale = true

-- a sampled record makes that there is no table
abbrev pub is_refused : SamplingUse → Bool
is_refused Ignore = false
is_refused Refuse = true
is_refused Scale = false

abbrev pub refuses_sampled : FilteredPlan → Bool
refuses_sampled read = is_refused read.sampling

abbrev pub wanted_options : FilteredPlan → Wanted
wanted_options read = record { init_time = count_from_init_time read.plan.choices.times; sampling = are_asked read.sampling }

use Rattle.std.proofs.Common.{◌≡◌, Option, ap, inl, inr, subst, sym}
use Rattle.std.specs.Prelude.{unwrap_or}
use Rattle.flow_plan_fields.specs.declared.table_plans.TablePlan.{TablePlan}
use Rattle.flow_plan_fields.specs.declared.named.PlanMaps.{PlanMaps}
use Rattle.report_writing.proofs.LinesTold.{is_told}
use Rattle.input_sources.specs.PlansTold.{IsLoaded, table_of}
use Rattle.input_sources.specs.declared.loaded_plan.LoadedPlan.{LoadedPlan}
use Rattle.input_sources.proofs.plan.load_plan_text.Goals as goal

pub returns-in-Err-clause-told : goal.returns-in-Err-clause-told
returns-in-Err-clause-told g c =
    inl (c.in-Err.error, c.in-Err.ensures.err, is_told _ _ _ c.write_map_fault.result _ c.write_map_fault.ensures.told c.write_map_fault.ensures.failed)

pub returns-in-Err-add_map_keys-clause-told : goal.returns-in-Err-add_map_keys-clause-told
returns-in-Err-add_map_keys-clause-told g c =
    let told = is_told _ _ _ c.write_key_fault.result _ c.write_key_fault.ensures.told c.write_key_fault.ensures.failed in
    inr (inl (c.in-Ok.maps, c.in-Ok.ensures.ok, (c.in-Err-add_map_keys.fault, rw c.deref.ensures.value at c.in-Err-add_map_keys.ensures, told)))

pub returns-in-Err-read_filtered_plan-clause-told : goal.returns-in-Err-read_filtered_plan-clause-told
returns-in-Err-read_filtered_plan-clause-told g c =
    let told = is_told _ _ _ c.write_filtered_fault.result _ c.write_filtered_fault.ensures.told c.write_filtered_fault.ensures.failed in
    let with = rw c.deref.ensures.value at c.in-Ok-add_map_keys.ensures in
    inr (inr (inl (c.in-Ok.maps, c.in-Ok.ensures.ok, (c.in-Ok-add_map_keys.elements, with, (c.in-Err-read_filtered_plan.error, c.in-Err-read_filtered_plan.ensures.err, told)))))

pub returns-in-Err-table_plan-clause-told : goal.returns-in-Err-table_plan-clause-told
returns-in-Err-table_plan-clause-told g c =
    let told = is_told _ _ _ c.write_scaling_fault.result _ c.write_scaling_fault.ensures.told c.write_scaling_fault.ensures.failed in
    let with = rw c.deref.ensures.value at c.in-Ok-add_map_keys.ensures in
    inr (inr (inr (c.in-Ok.maps, c.in-Ok.ensures.ok, (c.in-Ok-add_map_keys.elements, with, (c.in-Ok-read_filtered_plan.said, c.in-Ok-read_filtered_plan.ensures.ok, (c.in-Err-table_plan.fault, c.in-Err-table_plan.ensures.err, told))))))

pub loaded_of-requires : goal.loaded_of-requires
loaded_of-requires g c =
    ∣ (c.args.octets.now, c.in-Ok-add_map_keys.elements, c.in-Ok-read_filtered_plan.said, c.in-Ok-read_filtered_plan.ensures.ok, c.in-Ok-table_plan.ensures.ok) ∣₁

pub returns-in-Ok-table_plan-clause-text : goal.returns-in-Ok-table_plan-clause-text
returns-in-Ok-table_plan-clause-text g c = λ loaded is.
    let a = c.args in
    let read : IsLoaded a.elements a.octets.now c.in-Ok.maps c.in-Ok-table_plan.table = record {
      maps_are = c.in-Ok.ensures.ok;
      named = c.in-Ok-add_map_keys.elements;
      with = rw c.deref.ensures.value at c.in-Ok-add_map_keys.ensures;
      said = c.in-Ok-read_filtered_plan.said;
      plan = c.in-Ok-read_filtered_plan.ensures.ok;
      is_of = c.in-Ok-table_plan.ensures.ok;
    } in
    let made = c.loaded_of.result in
    let same : made ≡ loaded = ap (λ (o : Option LoadedPlan). unwrap_or o made) is in
    subst (λ (l : LoadedPlan). IsLoaded a.elements a.octets.now l.maps (table_of l)) same
    (subst (λ (maps : PlanMaps). IsLoaded a.elements a.octets.now maps (table_of made)) (sym c.loaded_of.ensures.maps_are)
    (subst (λ (table : TablePlan). IsLoaded a.elements a.octets.now c.in-Ok.maps table) (sym c.loaded_of.ensures.table_is) read))

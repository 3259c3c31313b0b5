use Rattle.std.proofs.Common.{◌≡◌, List, Some, ap, subst, sym, ◌∙◌}
use Rattle.toml.specs.Data.{Data, as_array}
use Rattle.toml.specs.View.{items_view, view}
use Rattle.toml.specs.declared.value.Value.{Value}
use Rattle.flow_plan_fields.specs.FilteredErrors.{AreNoConditions}
use Rattle.flow_plan_fields.specs.FilteredPlans.{AreConditions}
use Rattle.flow_plan_fields.proofs.Listed.{no_filter, values_view}
use Rattle.flow_plan_fields.proofs.wheres.read_filter.Goals as goal

pub returns-in-Ok : goal.returns-in-Ok
returns-in-Ok c =
    let vs = c.as_slice.result.now in
    let items : as_array (view c.in-Some.value) ≡ Some (items_view vs) = sym (ap (λ (l : List Value). Some (items_view l)) c.as_slice.ensures.value ∙ c.in-Some-as_array.ensures) in
    rw c.in-Some.is (items_view vs, items, subst (λ (l : List Data). AreConditions c.args.elements.now l c.in-Ok.conditions.items) (sym (values_view vs)) c.in-Ok.ensures)

pub returns : goal.returns
returns c =
    let vs = c.as_slice.result.now in
    let items : as_array (view c.in-Some.value) ≡ Some (items_view vs) = sym (ap (λ (l : List Value). Some (items_view l)) c.as_slice.ensures.value ∙ c.in-Some-as_array.ensures) in
    rw c.in-Some.is (no_filter c.args.elements.now (view c.in-Some.value) (items_view vs) c.in-Err.error items
    (subst (λ (l : List Data). AreNoConditions c.args.elements.now l c.in-Err.error) (sym (values_view vs)) c.in-Err.ensures))

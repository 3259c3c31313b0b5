use Rattle.std.proofs.Common.{Err, ap, sym, ◌∙◌, inr}
use Rattle.std.specs.Prelude.{option_and_then}
use Rattle.std.proofs.lemmas.Result.{err_from_is_err_and}
use Rattle.toml.specs.View.{table_view}
use Rattle.flow_filter.specs.declared.condition.Side.TheVariants.{In, NotIn}
use Rattle.flow_plan.specs.PlanTexts.{key_element}
use Rattle.flow_table.specs.Plans.{key_kind}
use Rattle.flow_plan_fields.specs.Wheres.{IsNoSide, IsOfElement, IsSide, side_value}
use Rattle.flow_plan_fields.specs.declared.place.WhereFault.{WhereFault}
use Rattle.flow_plan_fields.proofs.Sided.{no_sides, of_side}
use Rattle.flow_plan_fields.proofs.sides.read_sides.Goals as goal

pub returns-in_err-none_of : goal.returns-in_err-none_of
returns-in_err-none_of c =
    let known = c.args.elements.now in
    let d = table_view c.args.table.now in
    let e = c.in-Some-key_element.element in
    let told = c.in_err-none_of.field-0.0 in
    let of : IsOfElement known d e = record {
      no_other = sym (rw c.in_default.is at c.unknown_key.ensures);
      named = ap (option_and_then (key_element known)) (sym c.in-Some-element_text.ensures) ∙ sym c.in-Some-key_element.ensures;
      sided = sym c.has_side.ensures ∙ c.if-not-has_side.false;
    } in
    let first : IsSide e (key_kind known e) In (side_value In d) c.in_ok-one_of.one_of = rw c.key_kind-kind.ensures at c.in_ok-one_of.ensures in
    let none : IsNoSide (key_kind known e) NotIn (side_value NotIn d) told = rw c.key_kind-kind.ensures at c.in_err-none_of.ensures in
    let p = err_from_is_err_and c.from_residual-in_err-none_of.result c.from_residual-in_err-none_of.ensures.1 in
    rw (p.1 ∙ ap (λ (x : WhereFault). Err x) p.2)
    (no_sides known d told (record { element = e; is_of = of; side = inr ((c.in_ok-one_of.one_of, first), none) }) (of_side (key_kind known e) NotIn (side_value NotIn d) told none))

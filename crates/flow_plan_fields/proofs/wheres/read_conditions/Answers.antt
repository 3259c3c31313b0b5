use Rattle.std.proofs.Common.{Err, subst}
use Rattle.toml.specs.View.{view}
use Rattle.toml.specs.declared.value.Value.{Value}
use Rattle.flow_plan_fields.specs.Wheres.{IsWhere, ReadsWhere}
use Rattle.flow_plan_fields.proofs.Listed.{conditions_more, first_fault}
use Rattle.flow_plan_fields.proofs.wheres.read_conditions.Goals as goal

pub loop-index-preserved : goal.loop-index-preserved
loop-index-preserved c =
    conditions_more c.args.elements.now c.args.values.now c.loop-index.index c.index-values-index.result c.in-Ok.sides c.loop-index.conditions.items _ c.loop-index-test.true c.loop-index.invariant
    (subst (λ (v : Value). IsWhere c.args.elements.now (view v) c.in-Ok.sides) c.index-values-index.is c.in-Ok.ensures) c.in_ok-push_sides-in-Ok.ensures

pub returns-in-Err : goal.returns-in-Err
returns-in-Err c =
    first_fault c.args.elements.now c.args.values.now c.loop-index.index c.index-values-index.result c.in-Err.fault c.place_fault.result c.loop-index.conditions.items c.loop-index-test.true c.loop-index.invariant
    (subst (λ (v : Value). ReadsWhere c.args.elements.now (view v) (Err c.in-Err.fault)) c.index-values-index.is c.in-Err.ensures) c.place_fault.ensures

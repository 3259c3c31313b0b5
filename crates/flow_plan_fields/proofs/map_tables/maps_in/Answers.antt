use Rattle.std.proofs.Common.{List, map, Err, Ok, ◌≡◌, subst}
use Rattle.toml.specs.Data.{as_table}
use Rattle.toml.specs.View.{view}
use Rattle.flow_plan_fields.specs.Errors.{ReadsMapAt}
use Rattle.flow_plan_fields.specs.Maps.{map_of_table, map_value}
use Rattle.flow_plan_fields.specs.declared.named.NamedMap.{NamedMap}
use Rattle.flow_plan_fields.proofs.Steps.{maps_fail, maps_pushed}
use Rattle.flow_plan_fields.proofs.map_tables.maps_in.Goals as goal

pub returns-in-Err : goal.returns-in-Err
returns-in-Err c =
    maps_fail (map map_value c.loop-values.maps.items) c.loop-values.values.now _ c.value-item.result (map view c.args.values.now) c.in-Err.error c.in-len1-up.len_at_least c.value-item.is c.loop-values.invariant
    (subst (λ (l : List NamedMap). ReadsMapAt (map map_value l) (view c.value-item.result) (Err c.in-Err.error)) c.deref.ensures.value c.in-Err.ensures)

pub loop-values-preserved : goal.loop-values-preserved
loop-values-preserved c =
    maps_pushed c.loop-values.maps.items _ c.in-Ok.map c.loop-values.values.now _ c.value-item.result _ c.in-len1-up.len_at_least c.value-item.is
    (subst (λ (l : List NamedMap). map_of_table (map map_value l) (as_table (view c.value-item.result)) ≡ Ok (map_value c.in-Ok.map)) c.deref.ensures.value c.in-Ok.ensures)
    c.in_ok-push-in-Ok.ensures.items c.loop-values.invariant

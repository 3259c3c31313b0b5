use Rattle.std.proofs.Common.{◌∙◌}
use Rattle.flow_plan_fields.proofs.Steps.{keys_fail, keys_go_on}
use Rattle.flow_plan_fields.proofs.known.add_map_keys.Goals as goal

pub returns-in-Err : goal.returns-in-Err
returns-in-Err c =
    keys_fail c.loop-keys.elements c.loop-keys.keys.now _ c.key-item.result _ c.in-Err.fault c.in-len1-up.len_at_least c.key-item.is c.loop-keys.invariant c.in-Err.ensures.fault

pub loop-keys-preserved : goal.loop-keys-preserved
loop-keys-preserved c =
    keys_go_on c.loop-keys.elements c.add_key.new.elements c.loop-keys.keys.now _ c.key-item.result c.in-len1-up.len_at_least c.key-item.is c.in_default-add_key.ensures.ok ∙ c.loop-keys.invariant

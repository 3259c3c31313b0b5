use Rattle.std.proofs.Common.{◌≡◌, take}
use Rattle.std.specs.Prelude.{All, flat_map, option_copied}
use Rattle.std.specs.BTreeMap.{get}
use Rattle.std.specs.Ordering.{nat_cmp}
use Rattle.ipfix_datagrams.specs.Datagrams.{dropped_by, template_in}
use Rattle.ipfix_datagrams.specs.Withdrawals.{HasTemplateId}
use Rattle.ipfix_datagrams.proofs.changes.dropped.Given as goal

abbrev pub invariant-loop-id : goal.invariant-loop-id
invariant-loop-id l = record {
  items : l.dropped.items ≡ flat_map (λ id. dropped_by (get nat_cmp l.first id) (template_in (option_copied l.before) id)) (take l.id-index l.barred);
  ids : All HasTemplateId l.dropped.items;
}

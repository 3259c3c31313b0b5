use Rattle.std.proofs.Common.{◌≡◌, take, is_some}
use Rattle.std.specs.Prelude.{filter, not}
use Rattle.std.specs.BTreeMap.{get}
use Rattle.std.specs.Ordering.{nat_cmp}
use Rattle.ipfix_datagrams.proofs.known_templates.ids_left.Given as goal

abbrev pub invariant-loop-id : goal.invariant-loop-id
invariant-loop-id l = l.left.items ≡ filter (λ id. not (is_some (get nat_cmp l.last id))) (take l.id-index l.ids)

use Rattle.std.proofs.Common.{ℕ, is_some, rules}
use Rattle.std.specs.BTreeMap.{get}
use Rattle.std.specs.Ordering.{nat_cmp}
use Rattle.ipfix_datagrams.proofs.Weighed.{left_more}
use Rattle.ipfix_datagrams.proofs.known_templates.ids_left.Goals as goal

pub loop-id-preserved : goal.loop-id-preserved
loop-id-preserved c = left_more (λ (id : ℕ). is_some (get nat_cmp c.args.last.now id)) c.args.ids.now c.loop-id.id-index c.loop-id.left.items c.push_unless.new.left.items (search rules) c.loop-id.invariant c.in_ok-push_unless.ensures

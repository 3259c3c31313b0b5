use Rattle.std.proofs.Common.{ℕ, rules}
use Rattle.std.specs.Prelude.{option_copied}
use Rattle.std.specs.BTreeMap.{get}
use Rattle.std.specs.Ordering.{nat_cmp}
use Rattle.ipfix_datagrams.specs.Datagrams.{dropped_by, template_in}
use Rattle.ipfix_datagrams.proofs.Answered.{dropped_more}
use Rattle.ipfix_datagrams.proofs.changes.dropped.Goals as goal

pub loop-id-preserved : goal.loop-id-preserved
loop-id-preserved c = record {
  items = dropped_more (λ (id : ℕ). dropped_by (get nat_cmp c.args.first.now id) (template_in (option_copied c.args.before) id)) c.args.barred.now c.loop-id.id-index c.loop-id.dropped.items c.push_dropped.new.all.items (search rules) c.loop-id.invariant.items c.in_ok-push_dropped.ensures.items;
  ids = c.in_ok-push_dropped.ensures.ids c.loop-id.invariant.ids;
}

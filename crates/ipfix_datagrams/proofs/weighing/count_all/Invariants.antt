use Rattle.std.specs.Prelude.{option_map}
use Rattle.std.specs.BTreeMap.{get}
use Rattle.std.specs.Ordering.{nat_cmp}
use Rattle.ipfix_message.specs.TemplateLimits.{fields_of}
use Rattle.ipfix_datagrams.proofs.Weighed.{Counting}
use Rattle.ipfix_datagrams.proofs.weighing.count_all.Given as goal

abbrev pub invariant-loop-id : goal.invariant-loop-id
invariant-loop-id l = Counting (λ q. option_map fields_of (get nat_cmp l.templates q)) (get nat_cmp l.fn.counts) (get nat_cmp l.counts) l.id-iterator

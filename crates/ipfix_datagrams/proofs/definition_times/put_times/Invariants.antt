use Rattle.std.specs.Prelude.{option_copied}
use Rattle.std.specs.Option.{option_or}
use Rattle.std.specs.BTreeMap.{get}
use Rattle.std.specs.Ordering.{nat_cmp}
use Rattle.ipfix_datagrams.specs.Datagrams.{template_in}
use Rattle.ipfix_datagrams.specs.Late.{newly}
use Rattle.ipfix_datagrams.proofs.Times.{Timing}
use Rattle.ipfix_datagrams.proofs.definition_times.put_times.Given as goal

abbrev pub invariant-loop-id : goal.invariant-loop-id
invariant-loop-id l = Timing (λ q. newly (option_or (template_in (option_copied l.in_force) q) (template_in (option_copied l.withdrawn) q)) (get nat_cmp l.last q) l.now) (get nat_cmp l.fn.times) (get nat_cmp l.times) l.id-iterator

use Rattle.std.specs.Prelude.{option_copied}
use Rattle.std.specs.BTreeMap.{get}
use Rattle.std.specs.Ordering.{nat_cmp}
use Rattle.ipfix_datagrams.specs.Datagrams.{template_in}
use Rattle.ipfix_datagrams.proofs.WithdrawnKept.{Ending}
use Rattle.ipfix_datagrams.proofs.withdrawn_templates.put_ended.Given as goal

abbrev pub invariant-loop-id : goal.invariant-loop-id
invariant-loop-id l = Ending (λ q. template_in (option_copied l.after) q) (get nat_cmp l.ended) (get nat_cmp l.fn.kept) (get nat_cmp l.kept) l.id-iterator

use Rattle.std.proofs.Common.{eqb}
use Rattle.std.specs.List.{list_any}
use Rattle.std.specs.Option.{option_or}
use Rattle.std.specs.Prelude.{option_copied}
use Rattle.std.specs.BTreeMap.{get}
use Rattle.std.specs.Ordering.{nat_cmp}
use Rattle.ipfix_datagrams.specs.Datagrams.{is_changed_by, template_in}
use Rattle.ipfix_datagrams.proofs.Weighed.{Listing}
use Rattle.ipfix_datagrams.proofs.changes.changed.Given as goal

abbrev pub invariant-loop-id : goal.invariant-loop-id
invariant-loop-id l = Listing (λ q. is_changed_by (get nat_cmp l.last q) (option_or (template_in (option_copied l.in_force) q) (template_in (option_copied l.withdrawn) q))) (λ q. list_any (λ b. eqb b q) l.ids.items) l.id-iterator

use Rattle.std.proofs.Common.{rules}
use Rattle.std.proofs.lemmas.List.Sorted.{IsNonDecreasingBy-from_sort_by_key}
use Rattle.flow_collect.specs.declared.worker.LinkEnd.{LinkEnd}
use Rattle.flow_collect.proofs.settling.gathering.sort_link_ends.Goals as goal

pub returns-clause-order : goal.returns-clause-order
returns-clause-order c = IsNonDecreasingBy-from_sort_by_key (λ (link_end : LinkEnd). link_end.session) _ c.sort_unstable_by_key.ensures.sorted (λ a r q k. search rules)

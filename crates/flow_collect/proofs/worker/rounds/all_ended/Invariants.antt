use Rattle.std.proofs.Common.{◌≡◌, ℕ, ◌<◌, true, get_or}
use Rattle.flow_link.specs.Parcels.{has_last}
use Rattle.flow_collect.specs.declared.worker.LinkEnd.{LinkEnd}
use Rattle.flow_collect.proofs.worker.rounds.all_ended.Given as goal

abbrev pub invariant-loop-link_end : goal.invariant-loop-link_end
invariant-loop-link_end l = (k : ℕ) (d : LinkEnd) → k < l.link_end-index → has_last (get_or l.link_ends k d).receiver.received ≡ true

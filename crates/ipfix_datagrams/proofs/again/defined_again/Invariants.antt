use Rattle.std.proofs.Common.{◌≡◌, ◌==◌, ℕ, None, take, if◌then◌else◌}
use Rattle.std.specs.List.{list_any}
use Rattle.std.specs.BTreeMap.{get}
use Rattle.std.specs.Ordering.{nat_cmp}
use Rattle.ipfix_datagrams.specs.Datagrams.{unless_barred}
use Rattle.ipfix_datagrams.proofs.again.defined_again.Given as goal

abbrev pub invariant-loop-id : goal.invariant-loop-id
invariant-loop-id l = (q : ℕ) → get nat_cmp l.defined q
    ≡ (if list_any (λ id. q == id) (take l.id-index l.ids) then unless_barred l.barred (get nat_cmp l.withdrawn q) (get nat_cmp l.first q) q else None)

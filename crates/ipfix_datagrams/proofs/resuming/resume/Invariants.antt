use Rattle.std.proofs.Common.{◌≡◌, ℕ}
use Rattle.std.specs.Prelude.{option_copied}
use Rattle.std.specs.Option.{option_or}
use Rattle.std.specs.Ordering.{nat_cmp}
use Rattle.std.specs.BTreeMap.{get, values, IsOrdered}
use Rattle.ipfix_datagrams.specs.Datagrams.{template_in}
use Rattle.ipfix_datagrams.specs.Attempts.{resumed_by}
use Rattle.ipfix_datagrams.proofs.resuming.resume.Given as goal

abbrev pub invariant-loop-known : goal.invariant-loop-known
invariant-loop-known l = record {
  so_far : (q : ℕ) → option_or (get nat_cmp l.defined q)
      (resumed_by (λ id. template_in (option_copied l.in_force) id) (λ id. template_in (option_copied l.withdrawn) id) (get nat_cmp l.first) l.known-iterator q)
      ≡ option_or (get nat_cmp l.fn.defined q) (resumed_by (λ id. template_in (option_copied l.in_force) id) (λ id. template_in (option_copied l.withdrawn) id) (get nat_cmp l.first) (values l.resumed) q);
  ordered : IsOrdered nat_cmp l.fn.defined → IsOrdered nat_cmp l.defined;
}

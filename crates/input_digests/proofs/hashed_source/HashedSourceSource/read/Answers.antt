use Rattle.std.proofs.Math.Logic.{∥∥₁_map}
use Rattle.input_digests.proofs.Hashing.{hashed_all, hashed_kept, read_on, shows_end}
use Rattle.input_digests.proofs.hashed_source.HashedSourceSource.read.Goals as goal

pub invariant_of-self : goal.invariant_of-self
invariant_of-self g c = record { hashed = ∥∥₁_map c.args.self.now.hashed (λ h kept. hashed_kept _ _ _ _ _ (h kept) c.in_err-count.ensures.moved c.in_err-count.ensures.end) }

pub invariant_of-self-then-count-gt0 : goal.invariant_of-self-then-count-gt0
invariant_of-self-then-count-gt0 g c = record {
  hashed = ∥∥₁_map c.args.self.now.hashed (λ h.
      read_on _ _ _ _ _ _ _ _ _ _ _ _ h c.in_ok-count.ensures c.are_octets.ensures c.read-2.ensures c.read-3.ensures c.is_err-lost.ensures.value);
}

pub invariant_of-self-then-is_empty : goal.invariant_of-self-then-is_empty
invariant_of-self-then-is_empty g c = record {
  hashed = ∥∥₁_map c.args.self.now.hashed (λ h.
      read_on _ _ _ _ _ _ _ _ _ _ _ _ h c.in_ok-count.ensures c.are_octets.ensures c.read-2.ensures c.read-3.ensures c.is_err-lost.ensures.value);
}

pub invariant_of-self-2 : goal.invariant_of-self-2
invariant_of-self-2 g c = record {
  hashed = ∥∥₁_map c.args.self.now.hashed (λ h kept.
      hashed_all _ _ _ _ _ _
      (read_on _ _ _ _ _ _ _ _ _ _ _ _ h c.in_ok-count.ensures c.are_octets.ensures c.read-2.ensures c.read-3.ensures c.is_err-lost.ensures.value kept)
      (shows_end _ _ _ _ c.in_ok-count.ensures.end c.if-count-gt0.false c.if-is_empty.ensures) c.octets.ensures c.settle.ensures);
}

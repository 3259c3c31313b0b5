use Rattle.std.proofs.Common.{◌≤◌, length, arith}
use Rattle.std.proofs.Math.Logic.{∥∥₁_map}
use Rattle.std.proofs.lemmas.List.{length-take-le}
use Rattle.command_collect.proofs.Written.{written_kept, written_on}
use Rattle.command_collect.proofs.receipts.hashed_table.HashedWriterWrite.write.Goals as goal

pub invariant_of-self : goal.invariant_of-self
invariant_of-self g c = record { written = ∥∥₁_map c.args.self.now.written (λ h. written_kept _ _ _ _ _ h c.in_err-count.ensures.bytes) }

pub invariant_of-self-2 : goal.invariant_of-self-2
invariant_of-self-2 g c =
    let within : c.in_ok-count.count ≤ length c.args.octets.now = c.in_ok-count.ensures.bound in
    let size = length-take-le c.in_ok-count.count c.args.octets.now within in
    record { written = ∥∥₁_map c.args.self.now.written (λ h. written_on _ _ _ _ _ _ _ _ h c.in_ok-count.ensures.bytes c.update.ensures (omega (arith, c.saturating_add-self.ensures, size))) }

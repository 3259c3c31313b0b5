use Rattle.std.proofs.Math.Logic.{∥∥₁_map}
use Rattle.command_collect.proofs.Written.{written_kept}
use Rattle.command_collect.proofs.receipts.hashed_table.HashedWriterWrite.flush.Goals as goal

pub invariant_of-self : goal.invariant_of-self
invariant_of-self g c = record { written = ∥∥₁_map c.args.self.now.written (λ h. written_kept _ _ _ _ _ h c.flush.ensures.bytes) }

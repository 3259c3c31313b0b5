use Rattle.std.proofs.Common.{sym, subst, refl, List, ℕ}
use Rattle.std.specs.Prelude.{Option}
use Rattle.std.proofs.Math.Logic.{∥∥₁_elim}
use Rattle.std.proofs.Props.{props}
use Rattle.command_collect.specs.Hashing.{HasWritten}
use Rattle.command_collect.proofs.Written.{digest_of_text}
use Rattle.command_collect.proofs.receipts.hashed_table.export_from.Goals as goal

pub returns-in-Ok-clause-digest : goal.returns-in-Ok-clause-digest
returns-in-Ok-clause-digest g c =
    let after = c.export-exported.new.out in
    λ held is small. ∥∥₁_elim after.written (Prim.hlevel props) (λ h.
    digest_of_text after.hasher after.octets _ _ _ _ (subst (λ (o : Option (List ℕ)). HasWritten after.hasher after.octets o (g.W.Write.contents after.writer)) (sym c.requires.held) h) c.in-Ok.ensures.ok refl c.finalize-sha256.ensures held is small)

use Rattle.std.proofs.Common.{ℕ, List, inl, subst}
use Rattle.report_writing.specs.Told.{AreToldTo}
use Rattle.table_receipts.specs.Values.{receipt_value}
use Rattle.command_verify.specs.Verified.{TellsDifferences}
use Rattle.command_verify.proofs.comparing.tell_again.Goals as goal

pub returns-in-Ok-clause-tells : goal.returns-in-Ok-clause-tells
returns-in-Ok-clause-tells g c =
    let told = AreToldTo g.E.WriteLines.lines c.args.err.now c.tell_differences.new.err in
    let differs = subst (λ (l : List ℕ). TellsDifferences (receipt_value c.args.there.now.receipt.now) l c.tell_differences.result told) c.deref.ensures.value c.tell_differences.ensures.tells in
    inl (c.in-Ok.lines.items, c.in-Ok.ensures.compared, differs)

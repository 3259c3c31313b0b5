use Rattle.std.proofs.Common.{sym, ap, ◌∙◌}
use Rattle.std.proofs.lemmas.Bool.{false≢true}
use Rattle.std.proofs.lemmas.Result.{err_from_is_err_and}
use Rattle.std.proofs.lemmas.Slice.Eq.{bytes_eq-Decides}
use Rattle.table_receipts.specs.Texts.{receipt_text}
use Rattle.table_receipts.proofs.Endings.{reads_as, reads_so}
use Rattle.table_receipts.proofs.reading.read_receipt.Goals as goal

pub returns-in_err-value-clause-none : goal.returns-in_err-value-clause-none
returns-in_err-value-clause-none c r fits is refused =
    let p = err_from_is_err_and c.from_residual.result c.from_residual.ensures.1 in
    let one = p.1 in
    let two = p.2 in
    reads_so r c.args.text.now is (c.in_err-value.ensures.none (cc))

pub returns-then-eq-clause-back : goal.returns-then-eq-clause-back
returns-then-eq-clause-back c r fits is = c.in-Ok.ensures r fits (reads_as r c.args.text.now _ is c.in_ok-value.ensures.ok)

pub returns-clause-none : goal.returns-clause-none
returns-clause-none c r fits is refused =
    let value = c.in-Ok.ensures r fits (reads_as r c.args.text.now _ is c.in_ok-value.ensures.ok) in
    let own = c.in-Ok-write_receipt.ensures in
    false≢true (sym c.if-eq.false ∙ c.eq.ensures ∙ (bytes_eq-Decides c.as_slice.result.now c.as_bytes.result.now).1 (c.as_slice.ensures.value ∙ own ∙ ap receipt_text value ∙ is ∙ sym c.as_bytes.ensures.value))

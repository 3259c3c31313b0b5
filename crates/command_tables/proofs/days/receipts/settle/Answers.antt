use Rattle.std.proofs.Common.{List, None, Some, ap, subst, sym, ◌≡◌, ◌∙◌}
use Rattle.std.proofs.lemmas.Bool.{false≢true}
use Rattle.std.proofs.lemmas.Slice.Eq.{bytes_eq-Decides}
use Rattle.table_receipts.specs.Texts.{receipt_text}
use Rattle.table_receipts.specs.Values.{ReceiptValue, input_value, receipt_value}
use Rattle.receipt_merging.specs.Parts.{inputs_in, left_out_in}
use Rattle.ipfix_session.proofs.Reaching.{none_but}
use Rattle.command_tables.specs.SaidTogether.{gone_from, said_together}
use Rattle.command_tables.proofs.Lacking.{gone_of, lacks_it}
use Rattle.command_tables.proofs.days.receipts.settle.Goals as goal

pub returns-in-Some-clause-ok : goal.returns-in-Some-clause-ok
returns-in-Some-clause-ok c = λ parts merged.
    lacks_it c.args.own.now parts (receipt_value c.in_ok-receipt.receipt) c.in_ok-receipt.ensures.ok (input_value c.in-Some.gone.now)
    (gone_of c.in_ok-receipt.receipt.inputs.items c.args.merged.inputs.items c.deref.result.now c.deref-2.result.now c.args.merged.left_out.items c.deref-3.result.now (inputs_in parts) (left_out_in parts)
    c.first_gone.result (Some c.in-Some.gone) c.deref.ensures.value c.deref-2.ensures.value c.deref-3.ensures.value merged.together.inputs merged.together.left_out c.first_gone.ensures c.in-Some.is)
    c.lacking.result c.lacking.ensures.ok

pub returns-in-Ok-2-clause-ok : goal.returns-in-Ok-2-clause-ok
returns-in-Ok-2-clause-ok c = λ parts merged.
    let none =
    gone_of c.in_ok-receipt.receipt.inputs.items c.args.merged.inputs.items c.deref.result.now c.deref-2.result.now c.args.merged.left_out.items c.deref-3.result.now (inputs_in parts) (left_out_in parts)
    c.first_gone.result None c.deref.ensures.value c.deref-2.ensures.value c.deref-3.ensures.value merged.together.inputs merged.together.left_out c.first_gone.ensures (none_but _ c.in_default.not-Some) in
    record {
      differs = λ receipt fits is same.
          let back = c.in_ok-receipt.ensures.back receipt fits is in
          let written = c.in-Ok.ensures parts merged in
          false≢true (sym c.if-eq.false ∙ c.eq.ensures ∙ (bytes_eq-Decides c.as_slice.result.now c.args.own.now).1
          (c.as_slice.ensures.value ∙ written ∙ ap (λ (r : ReceiptValue). receipt_text (said_together parts r)) back ∙ same));
      lacks_none = λ receipt fits is. subst (λ (r : ReceiptValue). gone_from parts r ≡ None) (c.in_ok-receipt.ensures.back receipt fits is) none;
    }

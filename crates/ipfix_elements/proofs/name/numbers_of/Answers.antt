use Rattle.std.proofs.Common.{Some, ap, sym, ◌∙◌, arith}
use Rattle.std.specs.Fmt.{decimal}
use Rattle.std.proofs.lemmas.Option.{none-some, same_Some}
use Rattle.ipfix_wire.specs.declared.specifier.ElementId.{ElementId}
use Rattle.ipfix_elements.proofs.Numbered.{no_dot, numbered_parts, parsed}
use Rattle.ipfix_elements.proofs.name.numbers_of.Goals as goal

pub returns-in_err-pen : goal.returns-in_err-pen
returns-in_err-pen c = λ e fits is. absurd (c.in_err-pen.ensures (decimal e.pen) (decimal e.number) (no_dot e.pen (omega (arith, fits.pen))) (is ∙ numbered_parts e))

pub returns-in_err-ok : goal.returns-in_err-ok
returns-in_err-ok c = λ e fits is.
    let parts = c.in_ok-pen.ensures (decimal e.pen) (decimal e.number) (no_dot e.pen (omega (arith, fits.pen))) (is ∙ numbered_parts e) in
    let pen = parsed 32 e.pen c.in_ok-pen.pen.now c.parse.result c.ok.result fits.pen (omega (arith, fits.pen)) parts.0 c.parse.ensures.value.0 c.ok.ensures.value in
    absurd (none-some e.pen (sym c.in_err-ok.was ∙ pen))

pub returns-in_err-ok-2 : goal.returns-in_err-ok-2
returns-in_err-ok-2 c = λ e fits is.
    let parts = c.in_ok-pen.ensures (decimal e.pen) (decimal e.number) (no_dot e.pen (omega (arith, fits.pen))) (is ∙ numbered_parts e) in
    let number = parsed 16 e.number c.in_ok-pen.number.now c.parse-2.result c.ok-2.result (omega (arith, fits.number)) (omega (arith, fits.number)) parts.1 c.parse-2.ensures.value.0 c.ok-2.ensures.value in
    absurd (none-some e.number (sym c.in_err-ok-2.was ∙ number))

pub returns : goal.returns
returns c = λ e fits is.
    let parts = c.in_ok-pen.ensures (decimal e.pen) (decimal e.number) (no_dot e.pen (omega (arith, fits.pen))) (is ∙ numbered_parts e) in
    let pen = same_Some c.in_ok-ok.field-0 e.pen (sym c.in_ok-ok.was ∙ parsed 32 e.pen c.in_ok-pen.pen.now c.parse.result c.ok.result fits.pen (omega (arith, fits.pen)) parts.0 c.parse.ensures.value.0 c.ok.ensures.value) in
    let number = same_Some c.in_ok-ok-2.field-0 e.number (sym c.in_ok-ok-2.was ∙ parsed 16 e.number c.in_ok-pen.number.now c.parse-2.result c.ok-2.result (omega (arith, fits.number)) (omega (arith, fits.number)) parts.1 c.parse-2.ensures.value.0 c.ok-2.ensures.value) in
    ap (λ (d : ElementId). Some d) (λ i. record { pen = pen i; number = number i })

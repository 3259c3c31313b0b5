use Rattle.std.proofs.Common.{◌^◌, ap, sym, ◌∙◌, arith}
use Rattle.std.specs.Fmt.{decimal}
use Rattle.std.proofs.lemmas.Bool.{false≢true}
use Rattle.std.proofs.lemmas.Option.{none-some, same_Some}
use Rattle.std.proofs.lemmas.Slice.Eq.{bytes_eq-Decides}
use Rattle.element_registry.proofs.Decimals.{number_again, no_number, parsed, decimal_utf8}
use Rattle.element_registry.proofs.Fields.{refused_text, read_text}
use Rattle.element_registry.proofs.numbers.read_number.Goals as goal

pub returns-in_err-digits : goal.returns-in_err-digits
returns-in_err-digits c =
    c.from_residual.ensures
    ∙ no_number (2 ^ 32) c.args.text.now (λ n small is. refused_text c.args.text.now _ c.from_utf8.result c.ok.result c.from_utf8.ensures.cases c.ok.ensures.value c.in_err-digits.was (decimal_utf8 c.args.text.now n small is))

pub returns-in_err-number : goal.returns-in_err-number
returns-in_err-number c =
    let text = read_text c.args.text.now _ c.from_utf8.result c.ok.result c.in_ok-digits.digits c.from_utf8.ensures.cases c.ok.ensures.value c.in_ok-digits.was in
    c.from_residual-in_err-number.ensures
    ∙ no_number (2 ^ 32) c.args.text.now (λ n small is. none-some n (sym c.in_err-number.was ∙ parsed n c.in_ok-digits.digits.now c.parse.result c.ok-2.result small (text ∙ is) c.parse.ensures.value.0 c.ok-2.ensures.value))

pub returns-then-eq : goal.returns-then-eq
returns-then-eq c =
    let text = read_text c.args.text.now _ c.from_utf8.result c.ok.result c.in_ok-digits.digits c.from_utf8.ensures.cases c.ok.ensures.value c.in_ok-digits.was in
    let same = (bytes_eq-Decides c.format.result.now c.in_ok-digits.digits.now).0 (sym c.eq.ensures ∙ c.if-eq.true) in
    sym (number_again (2 ^ 32) c.args.text.now c.in_ok-number.number (omega arith) (omega arith) (sym text ∙ sym same ∙ c.format.ensures.text))

pub returns-else-eq : goal.returns-else-eq
returns-else-eq c =
    let text = read_text c.args.text.now _ c.from_utf8.result c.ok.result c.in_ok-digits.digits c.from_utf8.ensures.cases c.ok.ensures.value c.in_ok-digits.was in
    no_number (2 ^ 32) c.args.text.now (λ n small is.
    let number = same_Some c.in_ok-number.number n (sym c.in_ok-number.was ∙ parsed n c.in_ok-digits.digits.now c.parse.result c.ok-2.result small (text ∙ is) c.parse.ensures.value.0 c.ok-2.ensures.value) in
    false≢true (sym c.if-eq.false ∙ c.eq.ensures ∙ (bytes_eq-Decides c.format.result.now c.in_ok-digits.digits.now).1 (c.format.ensures.text ∙ ap decimal number ∙ sym is ∙ sym text)))

use Rattle.std.proofs.Common.{ap, sym, ◌∙◌, arith}
use Rattle.std.specs.Fmt.{decimal}
use Rattle.std.proofs.lemmas.Bool.{false≢true}
use Rattle.std.proofs.lemmas.Option.{none-some, same_Some}
use Rattle.std.proofs.lemmas.Slice.Eq.{bytes_eq-Decides}
use Rattle.flow_filter.proofs.Decimals.{number_again, no_number, parsed}
use Rattle.flow_filter.proofs.numbers.number_in.Goals as goal

pub returns-in_err-number : goal.returns-in_err-number
returns-in_err-number c =
    c.from_residual.ensures
    ∙ no_number c.args.text.now (λ n small is. none-some n (sym c.in_err-number.was ∙ parsed n c.args.text.now c.parse.result c.ok.result small is c.parse.ensures.value.0 c.ok.ensures.value))

pub returns-then-eq : goal.returns-then-eq
returns-then-eq c =
    let same = (bytes_eq-Decides c.format.result.now c.args.text.now).0 (sym c.eq.ensures ∙ c.if-eq.true) in
    sym (number_again c.args.text.now c.in_ok-number.number (omega arith) (sym same ∙ c.format.ensures.text))

pub returns-else-eq : goal.returns-else-eq
returns-else-eq c =
    no_number c.args.text.now (λ n small is.
    let bits = same_Some c.in_ok-number.number n (sym c.in_ok-number.was ∙ parsed n c.args.text.now c.parse.result c.ok.result small is c.parse.ensures.value.0 c.ok.ensures.value) in
    false≢true (sym c.if-eq.false ∙ c.eq.ensures ∙ (bytes_eq-Decides c.format.result.now c.args.text.now).1 (c.format.ensures.text ∙ ap decimal bits ∙ sym is)))

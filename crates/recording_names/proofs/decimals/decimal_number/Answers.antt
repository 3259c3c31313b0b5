use Rattle.std.proofs.Common.{ap, sym, ◌∙◌}
use Rattle.std.specs.Fmt.{decimal}
use Rattle.std.proofs.lemmas.Bool.{false≢true}
use Rattle.std.proofs.lemmas.Option.{none-some, same_Some}
use Rattle.std.proofs.lemmas.Slice.Eq.{bytes_eq-Decides}
use Rattle.recording_names.proofs.Hyphens.{parsed}
use Rattle.recording_names.proofs.decimals.decimal_number.Goals as goal

pub returns-in_err-number-clause-none : goal.returns-in_err-number-clause-none
returns-in_err-number-clause-none c = rw c.from_residual.ensures (λ n small is. none-some n (sym c.in_err-number.was ∙ parsed n c.args.text.now c.parse.result c.ok.result small is c.parse.ensures.value.0 c.ok.ensures.value))

pub returns-else-eq-clause-none : goal.returns-else-eq-clause-none
returns-else-eq-clause-none c = λ n small is.
    let number = same_Some c.in_ok-number.number n (sym c.in_ok-number.was ∙ parsed n c.args.text.now c.parse.result c.ok.result small is c.parse.ensures.value.0 c.ok.ensures.value) in
    false≢true (sym c.if-eq.false ∙ c.eq.ensures ∙ (bytes_eq-Decides c.format.result.now c.args.text.now).1 (c.format.ensures.text ∙ ap decimal number ∙ sym is))

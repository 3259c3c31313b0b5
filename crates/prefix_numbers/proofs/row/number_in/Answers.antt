use Rattle.std.proofs.Common.{sym, ap, ◌∙◌}
use Rattle.std.specs.Fmt.{decimal}
use Rattle.std.proofs.lemmas.Bool.{false≢true}
use Rattle.std.proofs.lemmas.Slice.Eq.{bytes_eq-Decides}
use Rattle.prefix_numbers.proofs.Decimals.{parsed, same_Ok, no_Ok}
use Rattle.prefix_numbers.proofs.row.number_in.Goals as goal

pub returns-in_default : goal.returns-in_default
returns-in_default c n small is =
    let same = same_Ok c.parse.result c.in-Ok.number n c.in-Ok.is (parsed n c.args.text.now c.parse.result small is c.parse.ensures.value.0) in
    false≢true (sym c.if-eq.false ∙ c.eq.ensures ∙ (bytes_eq-Decides c.format.result.now c.args.text.now).1 (c.format.ensures.text ∙ ap decimal same ∙ sym is))

pub returns-in_default-2 : goal.returns-in_default-2
returns-in_default-2 c n small is = no_Ok c.parse.result _ n c.in_default.is (parsed n c.args.text.now c.parse.result small is c.parse.ensures.value.0)

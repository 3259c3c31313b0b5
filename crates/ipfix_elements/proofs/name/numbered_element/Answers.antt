use Rattle.std.proofs.Common.{sym, ◌∙◌, arith}
use Rattle.std.proofs.lemmas.Slice.Eq.{bytes_eq-Decides}
use Rattle.ipfix_elements.proofs.Numbered.{numbered_again}
use Rattle.ipfix_elements.proofs.name.numbered_element.Goals as goal

pub returns-then-eq : goal.returns-then-eq
returns-then-eq c =
    let same = (bytes_eq-Decides c.as_str.result.now c.args.name.now).0 (sym c.eq.ensures ∙ c.if-eq.true) in
    sym (numbered_again c.args.name.now c.in_ok-element.element (record { pen = omega arith; number = omega arith }) (sym same ∙ c.as_str.ensures.value ∙ c.numbered_name.ensures))

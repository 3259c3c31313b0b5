use Rattle.std.proofs.Common.{sym, ◌∙◌, arith}
use Rattle.std.proofs.lemmas.Fmt.{decimal_injective}
use Rattle.recording_names.proofs.session_names.port_number.Goals as goal

pub returns-then-number-ge-PORTS-clause-none : goal.returns-then-number-ge-PORTS-clause-none
returns-then-number-ge-PORTS-clause-none c = λ port small is.
    let same = decimal_injective c.in_ok-number.number port (omega arith) (omega (arith, small)) (sym c.in_ok-number.ensures.some ∙ is) in
    omega (arith, same, small, c.if-number-ge-PORTS.true)

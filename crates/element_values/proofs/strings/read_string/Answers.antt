use Rattle.element_values.proofs.Read.{is_string, no_string}
use Rattle.element_values.proofs.strings.read_string.Goals as goal

pub returns-in-Ok : goal.returns-in-Ok
returns-in-Ok c = is_string c.args.octets.now c.without_zeros.result.now c.in-Ok.text.now c.without_zeros.ensures c.in-Ok.ensures.cases.0 c.in-Ok.ensures.cases.1

pub returns-in-Err : goal.returns-in-Err
returns-in-Err c = no_string c.args.octets.now c.without_zeros.result.now c.without_zeros.ensures c.in-Err.ensures.cases.0

use Rattle.std.proofs.Common.{arith}
use Rattle.std.proofs.lemmas.Str.Pattern.{strip_prefix_char}
use Rattle.flow_plan_fields.proofs.Cuts.{a_space, no_space}
use Rattle.flow_plan_fields.proofs.addresses.after_space.Goals as goal

pub returns-in-Some : goal.returns-in-Some
returns-in-Some c =
    let cases = strip_prefix_char 32 c.args.text.now c.strip_prefix.result c.strip_prefix.ensures.cases (omega arith) in
    a_space c.args.text.now c.in-Some.rest.now (rw c.in-Some.is at cases)

pub returns-in-None : goal.returns-in-None
returns-in-None c =
    let cases = strip_prefix_char 32 c.args.text.now c.strip_prefix.result c.strip_prefix.ensures.cases (omega arith) in
    no_space c.args.text.now (rw c.in-None.is at cases)

use Rattle.std.proofs.Common.{◌≡◌, ◌++◌, ◌∷◌, arith}
use Rattle.std.proofs.lemmas.Str.Pattern.{strip_prefix_char, split_after}
use Rattle.ipfix_elements.proofs.Numbered.{stripped_none, stripped_some, some_and}
use Rattle.ipfix_elements.proofs.name.parts_of.Goals as goal

pub returns-in_err-numbers : goal.returns-in_err-numbers
returns-in_err-numbers c = λ pen number none is.
    let stripped = strip_prefix_char 101 c.args.name.now c.strip_prefix.result c.strip_prefix.ensures.cases (omega arith) in
    absurd (stripped_none c.args.name.now (pen ++ 46 ∷ number) c.strip_prefix.result stripped c.in_err-numbers.was is)

pub returns : goal.returns
returns c = λ pen number none is.
    let stripped = strip_prefix_char 101 c.args.name.now c.strip_prefix.result c.strip_prefix.ensures.cases (omega arith) in
    let rest = stripped_some c.args.name.now (pen ++ 46 ∷ number) c.in_ok-numbers.numbers c.strip_prefix.result stripped c.in_ok-numbers.was is in
    some_and (λ r. (r.0.now ≡ pen) × (r.1.now ≡ number)) c.split_once.result
    (split_after 46 c.in_ok-numbers.numbers.now pen number c.split_once.result c.split_once.ensures.cases (omega arith) rest none)

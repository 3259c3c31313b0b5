use Rattle.std.proofs.Common.{arith}
use Rattle.std.proofs.lemmas.Str.Pattern.{split_parts}
use Rattle.network_prefixes.proofs.Words.{no_bits_after, no_slash, whole_word}
use Rattle.network_prefixes.proofs.prefix.Prefix.parse.Goals as goal

pub returns-in-None-clause-parsed : goal.returns-in-None-clause-parsed
returns-in-None-clause-parsed c =
    let none = no_slash c.args.word.now c.split_once.result _ (split_parts 47 c.args.word.now c.split_once.result c.split_once.ensures.cases (omega arith)) c.in-None.is in
    whole_word _ c.whole_address.result none c.whole_address.ensures.parsed

pub returns-in-None-clause-bits_after : goal.returns-in-None-clause-bits_after
returns-in-None-clause-bits_after c =
    let none = no_slash c.args.word.now c.split_once.result _ (split_parts 47 c.args.word.now c.split_once.result c.split_once.ensures.cases (omega arith)) c.in-None.is in
    ((λ same. absurd (c.whole_address.ensures.no_others same)), (λ h. absurd (no_bits_after c.args.word.now none h)))

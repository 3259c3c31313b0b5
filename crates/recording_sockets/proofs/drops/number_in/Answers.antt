use Rattle.std.proofs.Common.{◌≡◌, ℕ, ◌<◌, ◌^◌, List, Result, Ok, Err, sym, ap, ◌∙◌}
use Rattle.std.specs.Fmt.{decimal}
use Rattle.std.specs.Str.Parse.{ParsesUnsigned}
use Rattle.std.proofs.lemmas.Bool.{false≢true}
use Rattle.std.proofs.lemmas.Fmt.{parse-decimal}
use Rattle.std.proofs.lemmas.Slice.Eq.{bytes_eq-Decides}
use Rattle.recording_sockets.proofs.drops.number_in.Goals as goal

-- what is written for a number is parsed
parsed : {E : Type 0} (n : ℕ) (text : List ℕ) (r : Result ℕ E) → n < 2 ^ 64 → text ≡ decimal n → ParsesUnsigned 64 10 text r → r ≡ Ok n
parsed n text r small is parses = parse-decimal 64 n text r small small is parses

pub returns-in_default : goal.returns-in_default
returns-in_default c n small is =
    let r = parsed n c.args.text.now c.parse.result small is c.parse.ensures.value.0 in
    let same : c.in-Ok.number ≡ n = cc in
    false≢true (sym c.if-eq.false ∙ c.eq.ensures ∙ (bytes_eq-Decides c.format.result.now c.args.text.now).1 (c.format.ensures.text ∙ ap decimal same ∙ sym is))

pub returns-in_default-2 : goal.returns-in_default-2
returns-in_default-2 c n small is =
    let r = parsed n c.args.text.now c.parse.result small is c.parse.ensures.value.0 in cc

-- Decimal numbers in texts.
use Rattle.std.proofs.Common.{◌≡◌, ℕ, ◌^◌, ◌<◌, List, Result, Ok, Err, sym, ap, ◌∙◌, arith}
use Rattle.std.specs.Fmt.{decimal}
use Rattle.std.specs.Result.{is_ok, result_unwrap_or}
use Rattle.std.specs.Str.Parse.{ParsesUnsigned}
use Rattle.std.proofs.lemmas.Bool.{false≢true}
use Rattle.std.proofs.lemmas.Fmt.{parse-decimal}

-- what is written for a number is parsed
pub parsed : {E : Type 0} (n : ℕ) (text : List ℕ) (r : Result ℕ E) → n < 2 ^ 32 → text ≡ decimal n → ParsesUnsigned 32 10 text r → r ≡ Ok n
parsed n text r small is parses = parse-decimal 32 n text r small (omega (arith, small)) is parses

-- a result has one value
pub same_Ok : {T E : Type 0} (r : Result T E) (x y : T) → r ≡ Ok x → r ≡ Ok y → x ≡ y
same_Ok r x y is same = ap (λ r. result_unwrap_or r x) (sym is ∙ same)

pub no_Ok : {T E : Type 0} (r : Result T E) (e : E) (y : T) → r ≡ Err e → r ≡ Ok y → ⊥
no_Ok r e y is same = false≢true (ap is_ok (sym is ∙ same))

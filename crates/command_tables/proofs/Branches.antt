-- A fact that is one of two by a test.
use Rattle.std.proofs.Common.{◌≡◌, Bool, true, false, sym, subst}
use Rattle.std.specs.Prelude.{MatchBool}

pub if_true : (P Q : Type 0) (b : Bool) → b ≡ true → P → MatchBool b P Q
if_true P Q b is p = subst (λ (x : Bool). MatchBool x P Q) (sym is) p

pub if_false : (P Q : Type 0) (b : Bool) → b ≡ false → Q → MatchBool b P Q
if_false P Q b is q = subst (λ (x : Bool). MatchBool x P Q) (sym is) q

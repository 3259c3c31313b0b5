-- Lists with nothing in them.
use Rattle.std.proofs.Common.{◌≡◌, List, [], ◌∷◌, arith, length, refl}
use Rattle.std.proofs.lemmas.Bool.{eqb-true}
use Rattle.std.specs.Prelude.{◌≢◌, ◌==◌, true, false}

pub empty_of : {X : Type 0} (xs : List X) → (length xs == 0) ≡ true → xs ≡ []
empty_of [] is = refl
empty_of (x ∷ xs) is = absurd (omega (arith, eqb-true (length (x ∷ xs)) 0 is))

pub filled_of : {X : Type 0} (xs : List X) → (length xs == 0) ≡ false → xs ≢ []
filled_of [] is = λ same. absurd cc
filled_of (x ∷ xs) is = λ same. absurd cc

-- What holds of each of a list holds of what is found there.
use Rattle.std.proofs.Common.{◌≡◌, Bool, true, false, cond, List, [], ◌∷◌, find, Some, subst}
use Rattle.std.specs.List.{list_all}
use Rattle.std.proofs.lemmas.Bool.{and_parts}

pub find_all : {X : Type 0} (q f : X → Bool) (xs : List X) (y : X) → list_all q xs ≡ true → find f xs ≡ Some y → q y ≡ true
find_all q f [] y all found = absurd cc
find_all {X} q f (x ∷ xs) y all found =
    let both = and_parts (q x) (list_all q xs) all in
    by (f x) found both.0 (find_all q f xs y both.1)
  where
    by : (b : Bool) → cond b (Some x) (find f xs) ≡ Some y → q x ≡ true → (find f xs ≡ Some y → q y ≡ true) → q y ≡ true
    by true e a later = let same : x ≡ y = cc in subst (λ (r : X). q r ≡ true) same a
    by false e a later = later e

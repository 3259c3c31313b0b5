-- Adding numbers place by place.
use Rattle.std.proofs.Common.{◌≡◌, ℕ, suc, ◌+◌, ◌<◌, List, [], ◌∷◌, length, get_or, refl, arith}
use Rattle.flow_rows.specs.Rows.{added}

cons_same : (x y : ℕ) (xs ys : List ℕ) → x ≡ y → xs ≡ ys → x ∷ xs ≡ y ∷ ys
cons_same x y xs ys p q = cc

pub added_done : (xs ys zs : List ℕ) → length zs ≡ length xs → length xs ≡ length ys → ((k : ℕ) → k < length zs → get_or zs k 0 ≡ get_or xs k 0 + get_or ys k 0) → zs ≡ added xs ys
added_done [] [] [] p q h = refl
added_done [] [] (z ∷ zs) p q h = absurd (omega arith)
added_done [] (y ∷ ys) zs p q h = absurd (omega arith)
added_done (x ∷ xs) [] zs p q h = absurd (omega arith)
added_done (x ∷ xs) (y ∷ ys) [] p q h = absurd (omega arith)
added_done (x ∷ xs) (y ∷ ys) (z ∷ zs) p q h = cons_same z (x + y) zs (added xs ys) (h 0 (omega arith)) (added_done xs ys zs (omega arith) (omega arith) (λ k l. h (suc k) (omega arith)))

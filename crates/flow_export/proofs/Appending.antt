-- Texts that are appended one after another.
use Rattle.std.proofs.Common.{◌≡◌, ℕ, ◌+◌, ◌<◌, List, [], ◌∷◌, ◌++◌, length, get_or, take, sym, ap, ◌∙◌}
use Rattle.std.specs.List.{flat_map}
use Rattle.std.proofs.lemmas.List.{flat_map_more, take_more}

-- one more, after those that were appended
pub one_more : {X : Type 0} (text : X → List ℕ) (xs : List X) (i : ℕ) (x : X) (o p q : List ℕ) → i < length xs → x ≡ get_or xs i x
    → p ≡ o ++ flat_map text (take i xs) → q ≡ p ++ text x → q ≡ o ++ flat_map text (take (i + 1) xs)
one_more {X} text xs i x o p q inside is_x is_p is_q =
    let more : take (i + 1) xs ≡ take i xs ++ x ∷ [] = take_more xs i x inside ∙ ap (λ (y : X). take i xs ++ y ∷ []) (sym is_x) in
    is_q ∙ ap (λ (t : List ℕ). t ++ text x) is_p ∙ flat_map_more text o (take i xs) x ∙ ap (λ (ys : List X). o ++ flat_map text ys) (sym more)

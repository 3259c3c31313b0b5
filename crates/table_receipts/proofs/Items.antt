-- The items of a list of JSON.
use Rattle.std.proofs.Common.{◌≡◌, List, [], ◌∷◌, refl, ap, ◌∙◌}
use Rattle.json.specs.Json.{Json, array}
use Rattle.json.specs.Value.{items_of}

-- lists that are written alike have the same items
pub items_same : (js ks : List Json) → items_of js ≡ items_of ks → js ≡ ks
items_same [] [] e = refl
items_same [] (k ∷ ks) e = absurd cc
items_same (j ∷ js) [] e = absurd cc
items_same (j ∷ js) (k ∷ ks) e =
    let first : j ≡ k = cc in
    let rest : items_of js ≡ items_of ks = cc in
    ap (λ x. x ∷ js) first ∙ ap (λ xs. k ∷ xs) (items_same js ks rest)

pub arrays_same : (js ks : List Json) → array (items_of js) ≡ array (items_of ks) → js ≡ ks
arrays_same js ks e = let same : items_of js ≡ items_of ks = cc in items_same js ks same

-- The tokens of members, one list after another.
use Rattle.std.proofs.Common.{◌≡◌, ℕ, List, [], ◌∷◌, ◌++◌, refl, sym, ap, append_assoc, ◌∙◌}
use Rattle.json.specs.Json.{Json}
use Rattle.json.specs.Token.{Token, key}
use Rattle.json.specs.Tree.{json_tokens}
use Rattle.table_receipts.specs.Objects.{member_tokens}

pub tokens_append : (xs ys : List (List ℕ × Json)) → member_tokens (xs ++ ys) ≡ member_tokens xs ++ member_tokens ys
tokens_append [] ys = refl
tokens_append (x ∷ xs) ys =
    ap (λ (ts : List Token). key x.0 ∷ (json_tokens x.1 ++ ts)) (tokens_append xs ys)
    ∙ ap (λ (ts : List Token). key x.0 ∷ ts) (sym (append_assoc (json_tokens x.1) (member_tokens xs) (member_tokens ys)))

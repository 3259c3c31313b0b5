-- What is made of each of some periods, or of their names, one after another.
use Rattle.std.proofs.Common.{◌≡◌, ℕ, ◌+◌, ◌<◌, ◌≤◌, List, [], ◌∷◌, ◌++◌, get_or, length, take, sym, subst, ap, ◌∙◌}
use Rattle.std.specs.List.{AllZip}
use Rattle.std.proofs.lemmas.List.{take_all, take_more}
use Rattle.std.proofs.lemmas.Slice.Zip.{all_zipped_more}

-- one more
pub zip_more : {A B : Type 0} (R : A → B → Type 0) (xs : List A) (i : ℕ) (d x : A) (ys next : List B) (y : B) → i < length xs → get_or xs i d ≡ x → next ≡ ys ++ y ∷ [] → AllZip R (take i xs) ys → R x y → AllZip R (take (i + 1) xs) next
zip_more {A} {B} R xs i d x ys next y within is next_is zip r =
    subst (AllZip R (take (i + 1) xs)) (sym next_is)
    (subst (λ (t : List A). AllZip R t (ys ++ y ∷ [])) (sym (take_more xs i d within ∙ ap (λ (z : A). take i xs ++ z ∷ []) is)) (all_zipped_more R (take i xs) ys x y zip r))

pub zip_all : {A B : Type 0} (R : A → B → Type 0) (xs : List A) (ys : List B) (i : ℕ) → length xs ≤ i → AllZip R (take i xs) ys → AllZip R xs ys
zip_all {A} R xs ys i all zip = subst (λ (t : List A). AllZip R t ys) (take_all i xs all) zip

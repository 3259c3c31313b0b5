-- What is made of each of some values, one after another.
use Rattle.std.proofs.Common.{◌≡◌, ℕ, ◌+◌, ◌<◌, ◌≤◌, List, [], ◌∷◌, ◌++◌, get_or, length, map, take, sym, subst, ap, ◌∙◌}
use Rattle.std.specs.List.{AllZip}
use Rattle.std.proofs.lemmas.List.{map_push, take_all, take_more}

zip_push : {A B : Type 0} (R : A → B → Type 0) (xs : List A) (ys : List B) (x : A) (y : B) → AllZip R xs ys → R x y → AllZip R (xs ++ x ∷ []) (ys ++ y ∷ [])
zip_push R [] [] x y zip r = (r, tt)
zip_push R [] (b ∷ ys) x y zip r = absurd zip
zip_push R (a ∷ xs) [] x y zip r = absurd zip
zip_push R (a ∷ xs) (b ∷ ys) x y zip r = (zip.0, zip_push R xs ys x y zip.1 r)

next_one : {A : Type 0} (xs : List A) (i : ℕ) (d x : A) → i < length xs → get_or xs i d ≡ x → take (i + 1) xs ≡ take i xs ++ x ∷ []
next_one {A} xs i d x within is = take_more xs i d within ∙ ap (λ (z : A). take i xs ++ z ∷ []) is

module _ {A B : Type 0} (xs : List A) (i : ℕ) (d x : A) (within : i < length xs) (is : get_or xs i d ≡ x) (ys next : List B) (y : B) (next_is : next ≡ ys ++ y ∷ []) where
  pub zip_more : (R : A → B → Type 0) → AllZip R (take i xs) ys → R x y → AllZip R (take (i + 1) xs) next
  zip_more R zip r =
      subst (AllZip R (take (i + 1) xs)) (sym next_is) (subst (λ (t : List A). AllZip R t (ys ++ y ∷ [])) (sym (next_one xs i d x within is)) (zip_push R (take i xs) ys x y zip r))

  pub map_more : (f : B → A) → map f ys ≡ take i xs → f y ≡ x → map f next ≡ take (i + 1) xs
  map_more f front here =
      ap (map f) next_is ∙ map_push f ys y ∙ ap (λ (l : List A). l ++ f y ∷ []) front ∙ ap (λ (z : A). take i xs ++ z ∷ []) here ∙ sym (next_one xs i d x within is)

pub zip_all : {A B : Type 0} (R : A → B → Type 0) (xs : List A) (ys : List B) (i : ℕ) → length xs ≤ i → AllZip R (take i xs) ys → AllZip R xs ys
zip_all {A} R xs ys i all zip = subst (λ (t : List A). AllZip R t ys) (take_all i xs all) zip

pub map_all : {A B : Type 0} (f : B → A) (xs : List A) (ys : List B) (i : ℕ) → length xs ≤ i → map f ys ≡ take i xs → map f ys ≡ xs
map_all f xs ys i all front = front ∙ take_all i xs all

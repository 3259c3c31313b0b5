-- Lists side by side, one place more.
use Rattle.std.proofs.Common.{◌≡◌, List, [], ◌∷◌, ◌++◌, ap, sym, ◌∙◌, subst, length, append_assoc, append-nil}
use Rattle.std.specs.List.{AllZip}
use Rattle.std.proofs.lemmas.List.{nil_from_length}
use Rattle.flow_collect.specs.Places.{Each3}

pub each3_more : {A B C : Type 0} (P : A → B → C → Type 0) (xs : List A) (ys : List B) (zs : List C) (x : A) (y : B) (z : C) → Each3 P xs ys zs → P x y z → Each3 P (xs ++ x ∷ []) (ys ++ y ∷ []) (zs ++ z ∷ [])
each3_more P [] [] [] x y z e p = (p, tt)
each3_more P (a ∷ xs) (b ∷ ys) (c ∷ zs) x y z e p = (e.0, each3_more P xs ys zs x y z e.1 p)
each3_more P xs ys zs x y z e p = absurd e

-- what each thread was given, and what it gave
pub zip_join : {A H R : Type 0} (g : H → A) (P : A → R → Type 0) (xs : List A) (hs : List H) (rs : List R)
    → AllZip (λ x h. g h ≡ x) xs hs → AllZip (λ h r. P (g h) r) hs rs → AllZip P xs rs
zip_join g P [] [] [] e z = tt
zip_join g P [] [] (r ∷ rs) e z = absurd z
zip_join g P [] (h ∷ hs) rs e z = absurd e
zip_join g P (x ∷ xs) [] rs e z = absurd e
zip_join g P (x ∷ xs) (h ∷ hs) [] e z = absurd z
zip_join g P (x ∷ xs) (h ∷ hs) (r ∷ rs) e z = (subst (λ b. P b r) e.0 z.0, zip_join g P xs hs rs e.1 z.1)

-- one item goes from the rest to what was used
pub split_on : {A : Type 0} (all used rest : List A) (x : A) (rest' : List A) → all ≡ used ++ rest → rest ≡ x ∷ rest' → all ≡ (used ++ x ∷ []) ++ rest'
split_on all used rest x rest' e f = e ∙ ap (λ r. used ++ r) f ∙ sym (append_assoc used (x ∷ []) rest')

-- nothing is left of the rest
pub all_used : {A : Type 0} (all used rest : List A) → all ≡ used ++ rest → length rest ≡ 0 → all ≡ used
all_used all used rest e n = e ∙ (ap (λ r. used ++ r) (nil_from_length rest n) ∙ append-nil used)

-- Paths to files of a name.
use Rattle.std.proofs.Common.{◌≡◌, ℕ, ◌-◌, Bool, true, false, List, [], ◌∷◌, ◌++◌, length, take, drop, eqb, refl, sym, ap, ◌∙◌, append_assoc, length-append, take-append-drop, rules, arith}
use Rattle.std.specs.Prelude.{◌≢◌}
use Rattle.std.specs.Bool.{Decides, OnFalse, OnTrue}
use Rattle.std.specs.Cmp.Lexicographic.{pointwise}
use Rattle.std.proofs.lemmas.Slice.Eq.{slice_eq-Decides}
use Rattle.recording_periods.specs.TableStates.{IsPathTo}
use Rattle.recording_periods.specs.Whether.{Whether}

number-Decides : (a b : ℕ) → Decides (eqb a b) (a ≡ b)
number-Decides a b = search rules

octets-Decides : (xs ys : List ℕ) → Decides (pointwise eqb xs ys) (xs ≡ ys)
octets-Decides xs ys = slice_eq-Decides number-Decides xs ys (pointwise eqb xs ys) refl

taken : (front name : List ℕ) → take (length front) (front ++ name) ≡ front
taken [] name = refl
taken (b ∷ front) name = ap (λ (t : List ℕ). b ∷ t) (taken front name)

dropped : (front name : List ℕ) → drop (length front) (front ++ name) ≡ name
dropped [] name = refl
dropped (b ∷ front) name = dropped front name

-- what stands before the name
module _ (name path : List ℕ) where
  pub path_is : (folder front : List ℕ) → folder ≡ take (length path - length name) path → pointwise eqb (drop (length path - length name) path) name ≡ true → folder ≡ front ++ 47 ∷ [] → IsPathTo name path
  path_is folder front folder_is same ends = (
    front,
    sym (take-append-drop (length path - length name) path) ∙ ap (λ (t : List ℕ). t ++ drop (length path - length name) path) (sym folder_is ∙ ends)
        ∙ ap (λ (t : List ℕ). (front ++ 47 ∷ []) ++ t) ((octets-Decides (drop (length path - length name) path) name).0 same) ∙ append_assoc front (47 ∷ []) name,
  )

  module _ (front : List ℕ) (is : path ≡ front ++ 47 ∷ name) where
    whole : path ≡ (front ++ 47 ∷ []) ++ name
    whole = is ∙ sym (append_assoc front (47 ∷ []) name)

    room : length path - length name ≡ length (front ++ 47 ∷ [])
    room = let all = ap length whole ∙ length-append (front ++ 47 ∷ []) name in omega (arith, all)

    pub folder_ends : take (length path - length name) path ≡ front ++ 47 ∷ []
    folder_ends = ap (λ (n : ℕ). take n path) room ∙ ap (take (length (front ++ 47 ∷ []))) whole ∙ taken (front ++ 47 ∷ []) name

    pub name_ends : pointwise eqb (drop (length path - length name) path) name ≡ true
    name_ends = (octets-Decides (drop (length path - length name) path) name).1 (ap (λ (n : ℕ). drop n path) room ∙ ap (drop (length (front ++ 47 ∷ []))) whole ∙ dropped (front ++ 47 ∷ []) name)

  -- a slash before the name
  pub slash_tells : (folder : List ℕ) (r : Bool) → folder ≡ take (length path - length name) path → pointwise eqb (drop (length path - length name) path) name ≡ true
      → OnTrue r ((front : List ℕ) × (folder ≡ front ++ 47 ∷ [])) → OnFalse r ((front : List ℕ) → folder ≢ front ++ 47 ∷ []) → Whether r (IsPathTo name path)
  slash_tells folder true is same ends other = path_is folder ends.0 is same ends.1
  slash_tells folder false is same ends other = λ to. other to.0 (is ∙ folder_ends to.0 to.1)

  pub no_name : pointwise eqb (drop (length path - length name) path) name ≡ false → ¬ IsPathTo name path
  no_name other to = let wrong : true ≡ false = sym (name_ends to.0 to.1) ∙ other in absurd cc

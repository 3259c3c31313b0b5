-- Going over a list: what is known of all of it by what is left.
use Rattle.std.proofs.Common.{◌≡◌, ℕ, List, [], ◌∷◌, length, suc, inl, inr, refl, sym, subst, arith}
use Rattle.std.specs.Prelude.{All, Any, string_bytes}
use Rattle.std.specs.declared.alloc.Global.{Global}
use Rattle.std.specs.declared.string.String.{String}
use Rattle.std.proofs.lemmas.List.Elements.{All-cons, All-head, All-tail}
use Rattle.recording_periods.specs.Firsts.{IsFirst}

module _ {X : Type 0} (P : X → Type 0) where
  any_here : (x : X) (xs : List X) → P x → Any P (x ∷ xs)
  any_here x xs holds = (0, x, omega arith, refl, holds)

  any_there : (x : X) (xs : List X) → Any P xs → Any P (x ∷ xs)
  any_there x xs (k, y, within, at, holds) = (suc k, y, omega (arith, within), at, holds)

  module _ (all left : List X) where
    pub all_at_end : (All P left → All P all) → length left ≡ 0 → All P all
    all_at_end so_far none = so_far (λ k d within. absurd (omega (arith, within, none)))

    module _ (rest : List X) (x : X) (split : left ≡ x ∷ rest) where
      pub more_all : (All P left → All P all) → P x → All P rest → All P all
      more_all so_far holds later = so_far (subst (All P) (sym split) (All-cons P x rest holds later))

      pub some_here : (Any P left → Any P all) → P x → Any P all
      some_here so_far holds = so_far (subst (Any P) (sym split) (any_here x rest holds))

      pub more_some : (Any P left → Any P all) → Any P rest → Any P all
      more_some so_far later = so_far (subst (Any P) (sym split) (any_there x rest later))

      pub not_this : (¬ All P left → ¬ All P all) → ¬ P x → ¬ All P all
      not_this so_far wrong = so_far (λ every. wrong (All-head P x rest (subst (All P) split every)))

      pub not_later : (¬ All P left → ¬ All P all) → ¬ All P rest → ¬ All P all
      not_later so_far wrong = so_far (λ every. wrong (All-tail P x rest (subst (All P) split every)))

-- what is so of some is not otherwise of all
pub some_or_all : {X : Type 0} (P Q : X → Type 0) (xs : List X) → ((x : X) → P x → Q x → ⊥) → Any P xs → All Q xs → ⊥
some_or_all P Q xs apart (k, x, within, at, some) every = apart x some (subst Q at (every k x within))

module _ (Other Is : String Global → Type 0) where
  -- the first of which something is so
  module _ (all left rest : List (String Global)) (one : String Global) (text : List ℕ) (split : left ≡ one ∷ rest) (so_far : IsFirst Other Is left text → IsFirst Other Is all text) where
    pub first_here : Is one → string_bytes one ≡ text → IsFirst Other Is all text
    first_here is names = so_far (subst (λ (l : List (String Global)). IsFirst Other Is l text) (sym split) (inl (is, names)))

    pub first_later : Other one → IsFirst Other Is rest text → IsFirst Other Is all text
    first_later other later = so_far (subst (λ (l : List (String Global)). IsFirst Other Is l text) (sym split) (inr (other, later)))

  -- there is none if the other is so of all
  pub no_first : (ones : List (String Global)) (text : List ℕ) → ((one : String Global) → Is one → Other one → ⊥) → IsFirst Other Is ones text → All Other ones → ⊥
  no_first [] text apart first every = first
  no_first (one ∷ rest) text apart (inl (is, names)) every = apart one is (All-head Other one rest every)
  no_first (one ∷ rest) text apart (inr (other, later)) every = no_first rest text apart later (All-tail Other one rest every)

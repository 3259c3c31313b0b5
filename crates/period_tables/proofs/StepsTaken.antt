-- Periods that were taken one after another.
use Rattle.std.proofs.Common.{◌≡◌, List, [], ◌∷◌, length, refl, sym, subst, arith}
use Rattle.period_tables.specs.Taking.{Steps}

module _ {State A : Type 0} (Step : A → State → State → Type 0) where
  -- whatever is taken of those that are left, all of them were taken
  abbrev pub SoFar : List A → List A → State → State → Type 0
  SoFar all left before now = (after : State) → Steps Step left now after → Steps Step all before after

  pub one_more : (all left rest : List A) (a : A) (before now next : State) → left ≡ a ∷ rest → SoFar all left before now → Step a now next → SoFar all rest before next
  one_more all left rest a before now next split so_far step after later = so_far after (subst (λ (t : List A). Steps Step t now after) (sym split) (next, step, later))

  none_left : (left : List A) (now : State) → length left ≡ 0 → Steps Step left now now
  none_left [] now empty = refl
  none_left (a ∷ as') now empty = absurd (omega arith)

  pub at_end : (all left : List A) (before now : State) → length left ≡ 0 → SoFar all left before now → Steps Step all before now
  at_end all left before now empty so_far = so_far now (none_left left now empty)

-- Tests that tell whether two are one.
use Rattle.std.proofs.Common.{◌≡◌, ◌≢◌, ◌⊎◌, Bool, true, false, refl, inl, inr}

-- a test says whether two are one
abbrev pub Tells : {B : Type 0} → (B → B → Bool) → Type 0
Tells {B} S = (a b : B) → ((S a b ≡ true) × (a ≡ b)) ⊎ ((S a b ≡ false) × (a ≢ b))

module _ {B : Type 0} (S : B → B → Bool) (tells : Tells S) where
  pub itself : (a : B) → S a a ≡ true
  itself a = elim (tells a a) [ inl y ↦ y.0 | inr n ↦ absurd (n.1 refl) ]

-- What there is at most one of.
use Rattle.std.specs.Prelude.{◌≡◌}

-- P holds of one thing at most
abbrev pub AtMostOne : {A : Type 0} → (A → Type 0) → Type 0
AtMostOne {A = A} P = (a b : A) → P a → P b → a ≡ b

-- Texts that are one spelling after another, and reading them.
use Rattle.std.specs.Prelude.{◌≡◌, ℕ, zero, suc, List, [], ◌∷◌, ◌++◌, length, Result, Ok, Err}

-- w is one spelling for each of xs, in turn
abbrev pub InTurn : {X : Type 0} → (X → List ℕ → Type 0) → List X → List ℕ → Type 0
InTurn P [] w = w ≡ []
InTurn P (x ∷ xs) w = (u : List ℕ) × (v : List ℕ) × (w ≡ u ++ v) × P x u × InTurn P xs v

-- w is spellings of xs in turn and then rest, which begins with no spelling: xs is the longest such list
pub record IsLongest {X : Type 0} (P : X → List ℕ → Type 0) (xs : List X) (rest w : List ℕ) : Type 0 where
  pub text : List ℕ
  pub whole : w ≡ text ++ rest
  pub spelled : InTurn P xs text
  pub last : (x : X) (u v : List ℕ) → rest ≡ u ++ v → ¬ P x u

-- what a text begins with and what follows that, or why it begins with nothing
abbrev pub Reader : Type 0 → Type 0 → Type 0
Reader F X = List ℕ → Result (X × List ℕ) F

-- what a text begins with, one after another, and the rest
pub record Parts (X : Type 0) : Type 0 where
  pub items : List X
  pub rest : List ℕ

-- at most as many as the fuel
unfoldable pub parts_with : {F X : Type 0} → Reader F X → ℕ → List ℕ → Parts X
parts_with step zero w = record { items = []; rest = w }
parts_with step (suc fuel) w = elim (step w) [
  | Err e ↦ record { items = []; rest = w }
  | Ok r ↦ let more = parts_with step fuel r.1 in record { items = r.0 ∷ more.items; rest = more.rest }
]

-- all of them: each takes at least one octet
unfoldable pub parts_of : {F X : Type 0} → Reader F X → List ℕ → Parts X
parts_of step w = parts_with step (length w) w

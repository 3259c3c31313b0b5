-- What is found in a text.
use Rattle.std.specs.Prelude.{Option, MatchOption}

-- a value of which the fact holds was found; and none only if it holds of none
abbrev pub Finds : {X : Type 0} → (X → Type 0) → Option X → Type 0
Finds {X} Is found = MatchOption found ((x : X) → ¬ Is x) Is

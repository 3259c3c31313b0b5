-- The first of names or paths of which something is so.
use Rattle.std.specs.Prelude.{◌≡◌, ◌⊎◌, ℕ, List, [], ◌∷◌, string_bytes}
use Rattle.std.specs.declared.alloc.Global.{Global}
use Rattle.std.specs.declared.string.String.{String}

-- the first of them has this text; of each before it something else is so
abbrev pub IsFirst : (String Global → Type 0) → (String Global → Type 0) → List (String Global) → List ℕ → Type 0
IsFirst Other Is [] text = ⊥
IsFirst Other Is (one ∷ rest) text = (Is one × (string_bytes one ≡ text)) ⊎ (Other one × IsFirst Other Is rest text)

-- Texts that are cut at an octet.
use Rattle.std.specs.Prelude.{◌≡◌, ◌≢◌, ◌<◌, ℕ, List, ◌∷◌, ◌++◌, length, get_or, Option, MatchOption}
use Rattle.std.specs.Borrow.{Bor}

-- there is no such octet in a text
abbrev pub HasNo : ℕ → List ℕ → Type 0
HasNo octet text = (i : ℕ) → i < length text → get_or text i 0 ≢ octet

-- two texts with such an octet between them
abbrev pub joined : ℕ → List ℕ → List ℕ → List ℕ
joined octet front back = front ++ (octet ∷ back)

-- what stands before and after the last such octet of a text, if it has one
abbrev pub CutsAtLast : ℕ → List ℕ → Option (Bor (List ℕ) × Bor (List ℕ)) → Type 0
CutsAtLast octet text parts = MatchOption parts (HasNo octet text) (λ p. (text ≡ joined octet p.0.now p.1.now) × HasNo octet p.1.now)

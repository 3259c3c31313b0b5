-- A line of JSON, and what a reader of JSON has of it (RFC 8259).
use Rattle.std.specs.Prelude.{◌≡◌, ◌≢◌, ℕ, ◌==◌, List, [], ◌∷◌, ◌++◌, map, flat_map, All, Some, if◌then◌else◌}
use Rattle.json.specs.Json.{Json, document}

abbrev pub newline : ℕ
newline = 10

-- a line is a text and a newline; read as JSON, the text is one value and nothing else, and P holds of it
abbrev pub IsReadAs : List ℕ → (Json → Type 0) → Type 0
IsReadAs line P = (text : List ℕ) × (line ≡ text ++ newline ∷ []) × (value : Json) × (document text ≡ Some value) × P value

-- a line is a text and a newline, and no newline stands within the text
abbrev pub IsOneLine : List ℕ → Type 0
IsOneLine line = (text : List ℕ) × (line ≡ text ++ newline ∷ []) × All (λ octet. octet ≢ newline) text

-- an octet before lines
abbrev pub before_lines : ℕ → List (List ℕ) → List (List ℕ)
before_lines octet [] = (octet ∷ []) ∷ []
before_lines octet (line ∷ lines) = (octet ∷ line) ∷ lines

-- a text cut after each of its newlines
abbrev pub lines_in : List ℕ → List (List ℕ)
lines_in [] = []
lines_in (octet ∷ rest) = if octet == newline then (octet ∷ []) ∷ lines_in rest else before_lines octet (lines_in rest)

-- each thing of which P holds has a line of its own, and a text of such lines is cut into them after each newline
pub record AreApart {X : Type 0} (P : X → Type 0) (line : X → List ℕ) : Type 0 where
  pub each : (x : X) → P x → IsOneLine (line x)
  pub all : (xs : List X) → All P xs → lines_in (flat_map line xs) ≡ map line xs

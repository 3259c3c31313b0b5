-- Text that is passed on to a writer.
use Rattle.std.specs.Prelude.{◌≡◌, ℕ, List, ◌++◌, Option}
use Rattle.ipfix_elements.specs.Writers.{Writes}

-- the front of a text was written, and the rest of it waits
abbrev pub PassesOn : {W : Type 0} → (W → Option (List ℕ)) → List ℕ → List ℕ → W → W → Type 0
PassesOn contents text rest old new = (front : List ℕ) × (text ≡ front ++ rest) × Writes contents old new front

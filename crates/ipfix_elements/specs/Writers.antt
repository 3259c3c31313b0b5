-- What is written to a writer that shows its octets.
use Rattle.std.specs.Prelude.{ℕ, List, Option}
use Rattle.std.specs.Io.KnownBytes.{Appends}

-- the text was written after what a writer has, and nothing else
abbrev pub Writes : {W : Type 0} → (W → Option (List ℕ)) → W → W → List ℕ → Type 0
Writes contents old new text = Appends (contents old) (contents new) text

-- What it is that lines were told.
use Rattle.std.specs.Prelude.{ℕ, ◌⊎◌, List, Option}
use Rattle.std.specs.Io.KnownBytes.{Appends}
use Rattle.report_writing.specs.Lines.{LinesView}

-- exactly these lines were told; or a write failed, if the second fact holds
abbrev pub AreTold : Option (List ℕ) → Option (List ℕ) → Type 0 → List ℕ → Type 0
AreTold old new HasFailed lines = Appends old new lines ⊎ HasFailed

-- the same of a writer, by what its `WriteLines` sees of it
abbrev pub AreToldTo : {W : Type 0} → (W → LinesView) → W → W → List ℕ → Type 0
AreToldTo lines old new = AreTold (lines old).contents (lines new).contents (lines new).failed

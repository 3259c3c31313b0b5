-- What is seen of what lines are told to.
use Rattle.std.specs.Prelude.{ℕ, List, Option}
use Rattle.std.specs.Io.KnownBytes.{Appends}

pub record LinesView : Type 1 where
  -- the octets that it holds, if it shows them
  pub contents : Option (List ℕ)
  -- whether it is allowed that a write of it failed: of a writer that remembers it, whether one did
  pub failed : Type 0

-- this text was added to what it holds, and nothing else
abbrev pub Adds : {W : Type 0} → (W → LinesView) → W → W → List ℕ → Type 0
Adds lines old new text = Appends (lines old).contents (lines new).contents text

-- if a write to it has failed, one has failed afterwards too
abbrev pub StaysFailed : {W : Type 0} → (W → LinesView) → W → W → Type 0
StaysFailed lines old new = (lines old).failed → (lines new).failed

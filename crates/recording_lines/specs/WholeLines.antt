-- Lines that are written in one piece each.
use Rattle.std.specs.Prelude.{ℕ, Bool, List, Option, None, codes, ◌==◌, if◌then◌else◌}
use Rattle.std.specs.List.{ends_with}
use Rattle.std.specs.Io.KnownBytes.{append_known}

-- a line that has ended
abbrev pub has_ended : List ℕ → Bool
has_ended line = ends_with (λ a b. a == b) line (codes "\n")

-- what was written, and after it the line that has begun; of one that keeps back a line that has ended nothing is known
abbrev pub written_with : Option (List ℕ) → List ℕ → Option (List ℕ)
written_with written line = if has_ended line then None else append_known written line

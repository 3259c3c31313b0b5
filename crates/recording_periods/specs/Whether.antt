-- What an answer of yes or no says.
use Rattle.std.specs.Prelude.{Bool, MatchBool}

-- yes, and this is so, or no, and it isn't
abbrev pub Whether : Bool → Type 0 → Type 0
Whether answer Is = MatchBool answer Is (¬ Is)

-- What the lines of the rows of an interval begin with, kept.
use Rattle.std.specs.Prelude.{◌≡◌, ℕ, List, Option, Some, None}
use Rattle.flow_export.specs.declared.front.Front.{Front}

-- the text that is kept is that of its interval
abbrev pub IsTextOf : (ℕ → List ℕ) → Option ℕ → List ℕ → Type 0
IsTextOf front_of None text = Unit {0}
IsTextOf front_of (Some interval) text = text ≡ front_of interval

abbrev pub IsFront : (ℕ → List ℕ) → Front → Type 0
IsFront front_of front = IsTextOf front_of front.interval front.text.items

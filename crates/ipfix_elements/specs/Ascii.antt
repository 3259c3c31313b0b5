-- Characters of texts (ASCII).
use Rattle.std.specs.Prelude.{ℕ}

abbrev pub dot : ℕ
dot = 46

abbrev pub colon : ℕ
colon = 58

-- the letter before an element's numbers
abbrev pub letter_e : ℕ
letter_e = 101

-- The lines of a text.
use Rattle.std.specs.Prelude.{ℕ, ◌+◌, ◌≤◌, ◌≡◌, ◌==◌, ◌||◌, ◌&&◌, nat_lt, Bool, false, List, length, take, get_or, count_by}

abbrev pub newline : ℕ
newline = 10

abbrev pub carriage_return : ℕ
carriage_return = 13

abbrev pub ends_line : ℕ → Bool
ends_line octet = (octet == newline) || (octet == carriage_return)

-- the line of a place: 1, and 1 more for each newline before it
abbrev pub line_at : List ℕ → ℕ → ℕ
line_at text place = count_by (λ b. b == newline) (take place text) + 1

-- what begins at a place of a text begins where no line ends
pub record BeginsAt (text : List ℕ) (place : ℕ) : Type 0 where
  pub within : place ≤ length text
  pub starts : (nat_lt place (length text) && ends_line (get_or text place 0)) ≡ false

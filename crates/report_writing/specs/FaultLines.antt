-- The lines of faults, and of what the system did not give.
use Rattle.std.specs.Prelude.{ℕ, List, ◌++◌, codes, decimal}

-- a fault, by its number and its name, at the end of a line
unfoldable pub fault_text : ℕ → List ℕ → List ℕ
fault_text number name = codes ": fault " ++ (decimal number ++ (codes " " ++ (name ++ codes "\n")))

-- a file that can't be opened, or an address that can't be listened on
unfoldable pub not_had_line : List ℕ → List ℕ → List ℕ
not_had_line what name = codes "collectd: " ++ (what ++ (codes ": " ++ (name ++ codes "\n")))

-- with words at its end that say why
abbrev pub not_had_with : List ℕ → List ℕ → List ℕ → List ℕ
not_had_with what name words = not_had_line what (name ++ (codes ": " ++ words))

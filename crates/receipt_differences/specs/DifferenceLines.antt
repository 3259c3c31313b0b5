-- The lines of what differs.
use Rattle.std.specs.Prelude.{ℕ, ◌==◌, Bool, List, [], ◌++◌, codes, decimal, if◌then◌else◌}
use Rattle.report_writing.specs.Origins.{whole_name}

-- a number that was found, and the one that the receipt has
unfoldable pub number_line : List ℕ → ℕ → ℕ → List ℕ
number_line what found said = codes "collectd: verify: " ++ (what ++ (codes " " ++ (decimal found ++ (codes ", in the receipt " ++ (decimal said ++ codes "\n")))))

unfoldable pub number_differs : List ℕ → ℕ → ℕ → List ℕ
number_differs what found said = if found == said then [] else number_line what found said

-- what else is another one than in the receipt
unfoldable pub other_line : List ℕ → List ℕ
other_line what = codes "collectd: verify: " ++ (what ++ codes ": not that of the receipt\n")

unfoldable pub other_unless : Bool → List ℕ → List ℕ
other_unless is_same what = if is_same then [] else other_line what

-- how the line of an input or of a file begins
unfoldable pub line_start : List ℕ → List ℕ
line_start what = codes "collectd: verify: " ++ what

-- and the whole of it, with its name
unfoldable pub named_line : List ℕ → List ℕ → List ℕ → List ℕ
named_line what name end = line_start what ++ (whole_name name ++ end)

-- How a table differs from what its receipt says.
use Rattle.std.specs.Prelude.{◌≡◌, ℕ, bytes_eq, List, [], ◌∷◌, ◌++◌, codes, length, if◌then◌else◌}
use Rattle.sha2.specs.Sha256.{sha256}
use Rattle.table_receipts.specs.Values.{SumValue, TableValue}
use Rattle.table_receipts.specs.declared.receipt.RecordCounts.{RecordCounts}
use Rattle.receipt_differences.specs.DifferenceLines.{number_differs, other_line, other_unless}

-- by its octets, and by their digest (FIPS 180-4)
abbrev pub table_differs : TableValue → List ℕ → List ℕ
table_differs said table =
    number_differs (codes "table: octets") (length table) said.octets
    ++ other_unless (bytes_eq (sha256 table) said.digest) (codes "table: SHA-256")

-- it has the octets that the receipt tells
pub record IsTableOf (said : TableValue) (table : List ℕ) : Type 0 where
  pub octets : length table ≡ said.octets
  pub digest : sha256 table ≡ said.digest

-- ---- by its rows

-- how the sum of a counter is named
abbrev pub sum_name : List ℕ → List ℕ
sum_name counter = codes "table: sum of " ++ counter

-- of a counter of the same name; another one is no difference of sums
abbrev pub sum_differs : SumValue → SumValue → List ℕ
sum_differs found said =
    if bytes_eq found.name said.name then number_differs (sum_name said.name) found.total said.total
    else other_line (codes "table: counters")

abbrev pub sums_differ : List SumValue → List SumValue → List ℕ
sums_differ [] [] = []
sums_differ [] (s ∷ ss) = other_line (codes "table: counters")
sums_differ (f ∷ fs) [] = other_line (codes "table: counters")
sums_differ (f ∷ fs) (s ∷ ss) = sum_differs f s ++ sums_differ fs ss

abbrev pub rows_differ : TableValue → TableValue → List ℕ
rows_differ found said =
    number_differs (codes "table: rows") found.rows said.rows
    ++ (sums_differ found.sums said.sums
    ++ number_differs (codes "table: flows") found.flows said.flows)

-- by how many records are of each class
abbrev pub counts_differ : RecordCounts → RecordCounts → List ℕ
counts_differ found said =
    number_differs (codes "records: used") found.used said.used
    ++ (number_differs (codes "records: options") found.options said.options
    ++ (number_differs (codes "records: untimed") found.untimed said.untimed
    ++ (number_differs (codes "records: backward") found.backward said.backward
    ++ (number_differs (codes "records: unkeyed") found.unkeyed said.unkeyed
    ++ number_differs (codes "records: too_long") found.too_long said.too_long))))

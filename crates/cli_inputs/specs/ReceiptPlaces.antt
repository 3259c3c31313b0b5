-- Whether a path has a file of a part.
use Rattle.std.specs.Prelude.{◌⊎◌, ℕ, List}
use Rattle.table_parts.specs.declared.files.PartFiles.{PartFiles}

-- it has that of the part's table, or of its receipt
abbrev pub HasFileOf : (Same : List ℕ → Type 0) → PartFiles → Type 0
HasFileOf Same part = Same part.table.now ⊎ Same part.receipt.now

-- it has neither
abbrev pub HasNoFileOf : (Differ : List ℕ → Type 0) → PartFiles → Type 0
HasNoFileOf Differ part = Differ part.table.now × Differ part.receipt.now

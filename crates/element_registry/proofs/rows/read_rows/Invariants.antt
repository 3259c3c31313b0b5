use Rattle.std.proofs.Common.{◌≡◌, ◌<◌, ℕ, true, All, List, Some, map}
use Rattle.element_registry.specs.TextLines.{BeginsAt}
use Rattle.csv.specs.Reading.{Reached, Ready, default_config, source_of, strip_bom}
use Rattle.element_registry.specs.Files.{fields_in}
use Rattle.csv.specs.declared.parser.State.TheVariants.{StartRecord}
use Rattle.csv.specs.declared.reader.Trim.TheVariants as trim
use Rattle.element_registry.proofs.rows.read_rows.Given as goal

-- the rows so far take the text to what the reader has left
abbrev pub invariant-loop-row : goal.invariant-loop-row
invariant-loop-row l = (l.row-iterator.rdr.trim ≡ trim.None) × Ready l.row-iterator.rdr × (0 < l.row-iterator.left) × (l.row-iterator.rdr.flexible ≡ true) × (l.row-iterator.rdr.config ≡ default_config)
    × (rest : List ℕ) × (source_of (λ s. Some s.now) l.row-iterator.rdr ≡ Some rest)
    × Reached default_config StartRecord (strip_bom l.fn.text) (map fields_in l.rows.items) l.row-iterator.rdr.state rest × All (λ row. BeginsAt l.fn.text row.place) l.rows.items

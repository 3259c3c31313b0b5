-- What reading a data record under a plan answers.
use Rattle.std.specs.Prelude.{◌≡◌, ℕ, ◌+◌, if◌then◌else◌, List, length, Option, Some, None}
use Rattle.std.specs.List.{AllZip}
use Rattle.ipfix_wire.specs.declared.specifier.ElementId.{ElementId}
use Rattle.ipfix_elements.specs.declared.cell.Cell.{Cell}
use Rattle.ipfix_elements.specs.declared.kind.Kind.{Kind}
use Rattle.ipfix_message.specs.declared.record.DataRecord.{DataRecord}
use Rattle.flow_table.specs.declared.flow.Flow.{Flow}
use Rattle.flow_table.specs.declared.key.Key.{Key}
use Rattle.flow_table.specs.declared.reading.Reading.{Reading}
use Rattle.flow_table.specs.declared.reading.Reading.TheVariants.{Left, Used}
use Rattle.flow_table.specs.declared.words.CellWords.{CellWords}
use Rattle.flow_table.specs.Fitting.{FitsKeys, IsCellOf}
use Rattle.flow_table.specs.Flows.{HasIntervals}
use Rattle.flow_table.specs.LeftOut.{IsLeftOut}
use Rattle.flow_table.specs.Missing.{capped, is_absent_at}
use Rattle.flow_table.specs.Plans.{PlanValue}
use Rattle.flow_table.specs.Reading.{cells_of, IsUsed}
use Rattle.flow_table.specs.Words.{HasWords, key_words, nth}

-- ---- keys

-- there is a cell of the kind, and it has these words
pub record HasCell (kind : Kind) (found : Option Cell) (words : CellWords) : Type 0 where
  pub cell : Cell
  pub is : found ≡ Some cell
  pub fits : IsCellOf kind cell
  pub are : HasWords kind cell words

-- the words of a cell of the kind, if there is one
abbrev pub ReadsCell : Kind → Option Cell → Option CellWords → Type 0
ReadsCell kind found None = found ≡ None
ReadsCell kind found (Some words) = HasCell kind found words

-- a record has a cell for each of the keys, and these are their words
pub record HasKey (keys : List Key) (kinds : List Kind) (r : DataRecord) (words : List ℕ) : Type 0 where
  pub key : List Cell
  pub is : cells_of keys kinds r ≡ Some key
  pub fits : AllZip IsCellOf kinds key
  pub are : key_words kinds key ≡ Some words

-- the same, unless a place tells that it has none
abbrev pub ReadsKey : List Key → List Kind → DataRecord → List ℕ → Option ℕ → Type 0
ReadsKey keys kinds r words None = HasKey keys kinds r words
ReadsKey keys kinds r words (Some place) = cells_of keys kinds r ≡ None

-- ---- records

-- a used record, which is this flow, and whose key has these words
pub record IsUsedBy (plan : PlanValue) (r : DataRecord) (flow : Flow) (words : List ℕ) : Type 0 where
  pub intervals : HasIntervals plan flow
  pub key : List Cell
  pub is : IsUsed plan r flow.span.start flow.span.end key
  pub fits : FitsKeys plan key
  pub are : key_words plan.kinds key ≡ Some words

-- why a record is left out, or the flow of a used one and the words of its key
abbrev pub ReadsAs : PlanValue → DataRecord → List ℕ → Reading → Type 0
ReadsAs plan r words (Left left_out) = IsLeftOut plan r left_out
ReadsAs plan r words (Used flow) = IsUsedBy plan r flow words

-- one more at the place of each element that is missing or absent, but at most 2^64 - 1
pub record Notes (before : List ℕ) (elements : List ElementId) (r : DataRecord) (after : List ℕ) : Type 0 where
  pub long : length after ≡ length before
  pub counts : (c : ℕ) → nth after c ≡ capped (nth before c + (if is_absent_at elements c r then 1 else 0))

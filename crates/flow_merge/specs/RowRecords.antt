-- Data records that exports have for rows (RFC 7011, section 3.4.3).
use Rattle.std.specs.Prelude.{◌≡◌, ℕ, ◌+◌, ◌*◌, ◌^◌, ◌<◌, ◌≤◌, List, [], All, length, slice_index_or}
use Rattle.std.specs.List.{AllZip}
use Rattle.ipfix_wire.specs.declared.set.TheConstants.{FIRST_TEMPLATE_ID}
use Rattle.ipfix_elements.specs.declared.cell.Cell.{Cell}
use Rattle.ipfix_message.specs.declared.record.DataRecord.{DataRecord}
use Rattle.flow_table.specs.declared.key.Key.{Key}
use Rattle.flow_table.specs.Plans.{PlanValue}
use Rattle.flow_table.specs.Reading.{projected}
use Rattle.flow_table.specs.SameTables.{RowValue}
use Rattle.flow_export.specs.CsvText.{first_of, last_of}
use Rattle.flow_export.specs.Fitting.{FitsValue}
use Rattle.flow_export.specs.IpfixText.{fields_of, row_fields}
use Rattle.flow_export.specs.declared.intervals.Intervals.{Intervals}
use Rattle.flow_export.specs.declared.intervals.Intervals.TheVariants.{OfPlan, Between}
use Rattle.ipfix_message.specs.Fields.{Field}

-- no cell has bits after the prefix of its key
abbrev pub AreProjected : List Key → List Cell → Type 0
AreProjected keys cells = AllZip (λ key cell. projected key.prefix cell ≡ cell) keys cells

-- an interval of a plan of this number begins in time
pub record IsInTime (plan : PlanValue) (k : ℕ) : Type 0 where
  pub begins : k * plan.length < 2 ^ 50
  pub short : plan.length < 2 ^ 32

-- a row as tables of a plan have them: its interval begins in time and ends with a time of 64 bits, there are a cell for each
-- key, projected to its prefix, and a sum for each counter, some flow contributes, and all numbers have a place in 64 bits
pub record IsRowOf (plan : PlanValue) (row : RowValue) : Type 0 where
  pub interval : first_of plan row < 2 ^ 50
  pub end : last_of plan row < 2 ^ 64
  pub fits : FitsValue plan row
  pub projected : AreProjected plan.keys row.key
  pub small : All (λ sum. sum < 2 ^ 64) row.sums
  pub some : 0 < row.flows
  pub few : row.flows < 2 ^ 64

-- of the one template that exports have, in domain 0; no options record
pub record IsOfTemplate (r : DataRecord) : Type 0 where
  pub domain : r.domain ≡ 0
  pub template : r.template ≡ FIRST_TEMPLATE_ID
  pub scope : r.scope ≡ 0

-- the border of this index
abbrev pub border_at : List ℕ → ℕ → ℕ
border_at borders k = slice_index_or borders k 0

-- the time from a first to a last millisecond is within interval k between borders
pub record IsWithin (borders : List ℕ) (k start end : ℕ) : Type 0 where
  pub inside : k + 1 < length borders
  pub begins : border_at borders k ≤ start
  pub forward : start ≤ end
  pub ends : end < border_at borders (k + 1)

-- each border is before those after it, and there are at most 2^18
abbrev pub AreOrdered : List ℕ → Type 0
AreOrdered borders =
    ((i j : ℕ) → i < j → j < length borders → border_at borders i < border_at borders j) × (length borders ≤ 2 ^ 18)

-- the border of this index is the last that is not after a time
pub record IsLastBefore (borders : List ℕ) (time index : ℕ) : Type 0 where
  pub inside : index < length borders
  pub before : border_at borders index ≤ time
  pub after : (k : ℕ) → index < k → k < length borders → time < border_at borders k

-- the borders of intervals; the plan's have none
abbrev pub borders_in : Intervals → List ℕ
borders_in OfPlan = []
borders_in (Between borders) = borders.now

-- intervals that rows can be put in
abbrev pub CanTakeRows : Intervals → Type 0
CanTakeRows intervals = AreOrdered (borders_in intervals)

-- the fields of a row: its interval is the plan's, or any that is within the row's between borders
abbrev pub HasFields : Intervals → PlanValue → List Field → RowValue → Type 0
HasFields OfPlan plan fields row = fields ≡ row_fields plan row
HasFields (Between borders) plan fields row =
    (start : ℕ) × (end : ℕ) × IsWithin borders.now row.interval start end × (fields ≡ fields_of plan start end row.key row.sums row.flows)

-- a record that exports of tables with a plan's keys and counters have for a row
pub record IsRowRecordIn (intervals : Intervals) (plan : PlanValue) (r : DataRecord) (row : RowValue) : Type 0 where
  pub of_template : IsOfTemplate r
  pub fields : HasFields intervals plan r.fields row
  pub of_plan : IsRowOf plan row

-- one that exports of tables of a plan have
abbrev pub IsRowRecord : PlanValue → DataRecord → RowValue → Type 0
IsRowRecord = IsRowRecordIn OfPlan

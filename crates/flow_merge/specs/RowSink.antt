-- What a sink of rows holds after the records that it took.
use Rattle.std.specs.Prelude.{◌≡◌, ℕ, List, [], ◌∷◌, ◌++◌, length, Option, Some, None}
use Rattle.ipfix_message.specs.declared.record.DataRecord.{DataRecord}
use Rattle.ipfix_session.specs.Ledger.{capped}
use Rattle.flow_table.specs.SameTables.{RowValue}
use Rattle.flow_merge.specs.declared.merge_fault.MergeFault.{MergeFault}
use Rattle.flow_merge.specs.declared.merge_fault.MergeFault.TheVariants.{OutOfMemory, SumTooLarge, Session, NotAnExport, Lost, Row, Border}
use Rattle.flow_merge.specs.declared.merging.Merging.{Merging}
use Rattle.flow_merge.specs.declared.row_sink.RowSink.{RowSink}
use Rattle.flow_merge.specs.Merging.{AreRowRecordsIn, FirstCrossesIn, FirstOtherIn, FirstTooLargeIn, StandsFor, merging_intervals, merging_plan}

-- the rows of these records follow those before
abbrev pub StandsAfter : Merging → List RowValue → List DataRecord → Type 0
StandsAfter m rows rs = (more : List RowValue) × AreRowRecordsIn (merging_intervals m) (merging_plan m) rs more × StandsFor m (rows ++ more)

-- without a fault the records' rows follow those before, and so many were taken; with one, this record is the first that it fits
abbrev pub HoldsAfter : Option MergeFault → ℕ → Merging → List RowValue → List DataRecord → Type 0
HoldsAfter None taken m rows rs = StandsAfter m rows rs × (taken ≡ capped (length rs))
HoldsAfter (Some SumTooLarge) taken m rows rs = FirstTooLargeIn (merging_intervals m) (merging_plan m) rows rs
HoldsAfter (Some (Row fault)) taken m rows rs = FirstOtherIn (merging_intervals m) (merging_plan m) rows rs fault
HoldsAfter (Some (Border row)) taken m rows rs = FirstCrossesIn (merging_intervals m) (merging_plan m) rows rs row
HoldsAfter (Some OutOfMemory) taken m rows rs = Unit {0}
HoldsAfter (Some (Session fault)) taken m rows rs = ⊥
HoldsAfter (Some NotAnExport) taken m rows rs = ⊥
HoldsAfter (Some Lost) taken m rows rs = ⊥

-- what it holds after one record more
pub record TakesRecord (before : RowSink) (item : DataRecord) (after : RowSink) : Type 0 where
  pub plan : merging_plan after.merging ≡ merging_plan before.merging
  pub intervals : merging_intervals after.merging ≡ merging_intervals before.merging
  pub holds : (rows : List RowValue) (rs : List DataRecord) → HoldsAfter before.fault before.taken before.merging rows rs → HoldsAfter after.fault after.taken after.merging rows (rs ++ item ∷ [])

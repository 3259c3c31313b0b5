-- Reading a source that holds the export of a table.
use Rattle.std.proofs.Common.{◌≡◌, ℕ, true, List, [], ◌∷◌, ◌++◌, Option, Some, None, refl, sym, ap, ◌∙◌, subst, append-nil, append_assoc}
use Rattle.std.specs.Io.KnownBytes.{Consumes}
use Rattle.std.specs.Option.{ForSome}
use Rattle.ipfix_message.specs.declared.fault.MessageFault.{MessageFault}
use Rattle.ipfix_message.specs.declared.fault.MessageFault.TheVariants as messages
use Rattle.ipfix_message.specs.declared.record.DataRecord.{DataRecord}
use Rattle.ipfix_session.specs.Drives.{Gave}
use Rattle.ipfix_session.specs.Given.{Given, gives, records_of, stop_of}
use Rattle.ipfix_session.specs.Sources.{SourceView}
use Rattle.ipfix_session.specs.declared.fault.SessionFault.{SessionFault}
use Rattle.ipfix_session.specs.declared.fault.SessionFault.TheVariants as sessions
use Rattle.ipfix_session.specs.declared.stop.Stop.TheVariants.{Clean, Short, Fault}
use Rattle.ipfix_session.proofs.Giving.{gives_after-fault_stays}
use Rattle.flow_table.specs.AddedUp.{rows_in, AddUpTooLarge}
use Rattle.flow_table.specs.Plans.{PlanValue, IsPlan}
use Rattle.flow_table.specs.SameTables.{RowValue}
use Rattle.flow_table.proofs.AddedUp.{too_large_more}
use Rattle.flow_merge.specs.Merging.{AddsExport, GivesExport, GivesExportIn, AreOfExport, AreRowRecords, FirstOtherIn, FirstTooLargeIn, IsExport, NoneLost, StandsFor, merging_intervals, merging_plan, IsDue as IsMergeDue}
use Rattle.flow_export.specs.declared.intervals.Intervals.{Intervals}
use Rattle.flow_export.specs.declared.intervals.Intervals.TheVariants.{OfPlan}
use Rattle.flow_merge.specs.declared.row_fault.RowFault.TheVariants as faults
use Rattle.laws_merge.specs.Exports.{HoldsExport, IsExportFault}
use Rattle.flow_merge.specs.RowRecords.{IsRowRecord}
use Rattle.flow_merge.specs.declared.merge_fault.MergeFault.{MergeFault}
use Rattle.flow_merge.specs.declared.merge_fault.MergeFault.TheVariants.{OutOfMemory, SumTooLarge, Session, NotAnExport, Lost, Row, Border}
use Rattle.flow_merge.specs.declared.merging.Merging.{Merging}
use Rattle.flow_merge.specs.declared.row_fault.RowFault.{RowFault}
use Rattle.laws_merge.proofs.ExportedTables.{export_is_export}
use Rattle.laws_merge.proofs.OneRow.{no_row, one_row}

-- ---- records have the rows of one list

module _ (plan : PlanValue) (is_plan : IsPlan plan) where
  -- the rows of the first records are the first rows
  first_rows : (first others : List DataRecord) (rows some : List RowValue) → AreRowRecords plan (first ++ others) rows → AreRowRecords plan first some → (more : List RowValue) × (rows ≡ some ++ more)
  first_rows [] others rows [] all are = (rows, refl)
  first_rows [] others rows (b ∷ some) all are = absurd are
  first_rows (r ∷ first) others [] some all are = absurd all
  first_rows (r ∷ first) others (a ∷ rows) [] all are = absurd are
  first_rows (r ∷ first) others (a ∷ rows) (b ∷ some) all are =
      let same = one_row plan r a b is_plan all.0 are.0 in
      let later = first_rows first others rows some all.1 are.1 in
      (later.0, ap (λ (x : RowValue). x ∷ rows) same ∙ ap (λ (l : List RowValue). b ∷ l) later.1)

  pub same_rows : (rs : List DataRecord) (rows some : List RowValue) → AreRowRecords plan rs rows → AreRowRecords plan rs some → rows ≡ some
  same_rows [] [] [] all are = refl
  same_rows [] [] (b ∷ some) all are = absurd are
  same_rows [] (a ∷ rows) some all are = absurd all
  same_rows (r ∷ rs) [] some all are = absurd all
  same_rows (r ∷ rs) (a ∷ rows) [] all are = absurd are
  same_rows (r ∷ rs) (a ∷ rows) (b ∷ some) all are =
      ap (λ (x : RowValue). x ∷ rows) (one_row plan r a b is_plan all.0 are.0) ∙ ap (λ (l : List RowValue). b ∷ l) (same_rows rs rows some all.1 are.1)

-- a record among them has a row
own_row : (plan : PlanValue) (first : List DataRecord) (r : DataRecord) (others : List DataRecord) (rows : List RowValue) → AreRowRecords plan (first ++ r ∷ others) rows → (row : RowValue) × IsRowRecord plan r row
own_row plan [] r others [] all = absurd all
own_row plan [] r others (row ∷ rows) all = (row, all.0)
own_row plan (x ∷ first) r others [] all = absurd all
own_row plan (x ∷ first) r others (row ∷ rows) all = own_row plan first r others rows all.1

no_other : (plan : PlanValue) (before : List RowValue) (rs : List DataRecord) (rows : List RowValue) (fault : RowFault) → AreRowRecords plan rs rows → FirstOtherIn OfPlan plan before rs fault → ⊥
no_other plan before rs rows fault all other =
    let one = own_row plan other.first other.next other.others rows (subst (λ (l : List DataRecord). AreRowRecords plan l rows) other.are all) in
    no_row plan other.next fault one.0 other.not_memory other.other one.1

all_too_large : (plan : PlanValue) (before rows : List RowValue) (rs : List DataRecord) → IsPlan plan → AreRowRecords plan rs rows → FirstTooLargeIn OfPlan plan before rs → AddUpTooLarge (before ++ rows)
all_too_large plan before rows rs is_plan all large =
    let more = first_rows plan is_plan large.first large.others rows large.rows (subst (λ (l : List DataRecord). AreRowRecords plan l rows) large.are all) large.records in
    subst AddUpTooLarge (append_assoc before large.rows more.0 ∙ ap (λ (l : List RowValue). before ++ l) (sym more.1)) (too_large_more (before ++ large.rows) more.0 large.large)

-- ---- what a source gave of a text that it held

gave_some : (before after : Option (List ℕ)) (text gave : List ℕ) → before ≡ Some text → Consumes before after gave → (left : List ℕ) × (text ≡ gave ++ left) × (after ≡ Some left)
gave_some before None text gave held octets = absurd (subst (λ (b : Option (List ℕ)). Consumes b None gave) held octets)
gave_some before (Some left) text gave held octets = (left, subst (λ (b : Option (List ℕ)). Consumes b (Some left) gave) held octets, refl)

gave_all : (before after : SourceView) (text gave : List ℕ) → before.text ≡ Some text → Consumes before.text after.text gave → (after.ended ≡ true → ForSome after.text (λ xs. xs ≡ [])) → after.ended ≡ true → gave ≡ text
gave_all before after text gave held octets at_end ended =
    let some = gave_some before.text after.text text gave held octets in
    sym (some.1 ∙ ap (λ (l : List ℕ). gave ++ l) (at_end ended some.0 some.2) ∙ append-nil gave)

module _ {S : Type 0} (seen : S → SourceView) (limit : ℕ) (before after : S) (at_end : (seen after).ended ≡ true → ForSome (seen after).text (λ xs. xs ≡ [])) (plan : PlanValue) (rs : List DataRecord)
    (holds : HoldsExport plan (seen before) rs) where
  abbrev own : List RowValue
  own = rows_in holds.table

  is_export : IsExport plan holds.text own
  is_export = export_is_export plan rs holds.table holds.text holds.export

  -- without a fault all of it was given
  whole : (gave : List ℕ) → Gave seen limit before gave after None → gave ≡ holds.text
  whole gave given = gave_all (seen before) (seen after) holds.text gave holds.held given.octets at_end given.fault_is_due.1

  -- it gave its rows
  pub given_own : (rows : List RowValue) → GivesExport seen limit plan before after rows → rows ≡ own
  given_own rows read =
      let export = subst (λ (w : List ℕ). IsExport plan w rows) (whole read.gave read.given) read.export in
      same_rows plan holds.export.is_plan (records_of holds.text) rows own export.records is_export.records

  -- its rows were added
  pub adds_own : (old new : Merging) (rows : List RowValue) → merging_plan old ≡ plan → merging_intervals old ≡ OfPlan → AddsExport seen limit old before after rows new → StandsFor new (rows ++ own)
  adds_own old new rows same of_plan adds =
      let read = subst (λ (p : PlanValue). GivesExport seen limit p before after adds.more) same (subst (λ (i : Intervals). GivesExportIn seen limit i (merging_plan old) before after adds.more) of_plan adds.gives_export) in
      subst (λ (l : List RowValue). StandsFor new (rows ++ l)) (given_own adds.more read) adds.stands

  -- a text without a fault doesn't begin with one that has one
  no_message_fault : (gave : List ℕ) (e : MessageFault) → Consumes (seen before).text (seen after).text gave → stop_of gave ≡ Fault e → ⊥
  no_message_fault gave e octets is =
      let some = gave_some (seen before).text (seen after).text holds.text gave holds.held octets in
      let stays = ap (λ (g : Given). g.stop) (gives_after-fault_stays [] gave some.0 e is) in
      let clean : Clean ≡ Fault e = sym is_export.clean ∙ ap stop_of some.1 ∙ stays ∙ is in
      cc

  session_fault : (rows : List RowValue) (fault : SessionFault) → IsMergeDue seen limit plan rows before after (Session fault) → IsExportFault (AddUpTooLarge (rows ++ own)) (Session fault)
  session_fault rows sessions.SinkClosed due = absurd due
  session_fault rows sessions.ReadFailed due = tt
  session_fault rows sessions.TooManyReads due = tt
  session_fault rows (sessions.Message messages.OutOfMemory) due = tt
  session_fault rows (sessions.Message e) due = absurd (no_message_fault due.0 e due.1.octets due.1.fault_is_due)
  session_fault rows sessions.Truncated due =
      let all = gave_all (seen before) (seen after) holds.text due.0 holds.held due.1.octets at_end due.1.fault_is_due.1 in
      let short : Clean ≡ Short = sym is_export.clean ∙ ap stop_of (sym all) ∙ due.1.fault_is_due.0 in
      absurd (cc)

  -- the fault is none of the export's own, but that it is too large
  pub own_fault : (rows : List RowValue) (fault : MergeFault) → IsMergeDue seen limit plan rows before after fault → IsExportFault (AddUpTooLarge (rows ++ own)) fault
  own_fault rows OutOfMemory due = tt
  own_fault rows (Session fault) due = session_fault rows fault due
  own_fault rows NotAnExport due = absurd (due.2 (subst (λ (w : List ℕ). AreOfExport (gives w).messages) (sym (whole due.0 due.1)) is_export.messages))
  own_fault rows Lost due = absurd (due.2.1 (subst (λ (w : List ℕ). NoneLost (gives w).messages) (sym (whole due.0 due.1)) is_export.none_lost))
  own_fault rows (Row fault) due = absurd (no_other plan rows (records_of holds.text) own fault is_export.records (subst (λ (w : List ℕ). FirstOtherIn OfPlan plan rows (records_of w) fault) (whole due.0 due.1) due.2.2))
  own_fault rows (Border row) due = absurd (no_other plan rows (records_of holds.text) own faults.Border is_export.records (subst (λ (w : List ℕ). FirstOtherIn OfPlan plan rows (records_of w) faults.Border) (whole due.0 due.1) due.2.2.other))
  own_fault rows SumTooLarge due =
      all_too_large plan rows own (records_of holds.text) holds.export.is_plan is_export.records (subst (λ (w : List ℕ). FirstTooLargeIn OfPlan plan rows (records_of w)) (whole due.0 due.1) due.2.2)

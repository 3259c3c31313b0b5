-- What a merging stands for after one record more, and after all that a sink took.
use Rattle.std.proofs.Common.{◌≡◌, ℕ, ◌+◌, ◌<◌, List, [], ◌∷◌, ◌++◌, length, length-append, All, true, false, is_some, Option, Some, None, Result, Ok, Err, refl, sym, ap, ◌∙◌, subst, append-nil, append_assoc, arith}
use Rattle.std.specs.Prelude.{◌≢◌, IsErrAnd}
use Rattle.std.specs.Result.{result_err}
use Rattle.std.specs.List.{FoldsTo}
use Rattle.std.proofs.lemmas.List.Elements.{All-append, All-cons, All-nil}
use Rattle.std.proofs.lemmas.Slice.Zip.{all_zipped_more}
use Rattle.ipfix_message.specs.declared.record.DataRecord.{DataRecord}
use Rattle.ipfix_session.specs.Ledger.{capped}
use Rattle.flow_table.specs.AddedUp.{AddUpTooLarge}
use Rattle.flow_table.specs.Plans.{PlanValue}
use Rattle.flow_table.specs.RowTotals.{AreOf}
use Rattle.flow_table.specs.Fitting.{FitsRow}
use Rattle.flow_table.specs.SameTables.{RowValue, value_of}
use Rattle.flow_table.specs.declared.table.Row.{Row as TableRow}
use Rattle.flow_table.specs.declared.row_totals.RowTotals.{RowTotals}
use Rattle.flow_table.specs.declared.table_fault.TableFault.{TableFault}
use Rattle.flow_table.specs.declared.table_fault.TableFault.TheVariants as tables
use Rattle.flow_merge.specs.RowRecords.{IsRowOf, IsRowRecordIn}
use Rattle.flow_merge.specs.RowFaults.{IsRowFaultIn}
use Rattle.flow_export.specs.declared.intervals.Intervals.{Intervals}
use Rattle.flow_merge.specs.declared.row_fault.RowFault.{RowFault}
use Rattle.flow_merge.specs.declared.row_fault.RowFault.TheVariants as faults
use Rattle.flow_merge.specs.declared.merge_fault.MergeFault.{MergeFault}
use Rattle.flow_merge.specs.declared.merge_fault.MergeFault.TheVariants.{OutOfMemory, SumTooLarge, Session, NotAnExport, Lost, Row, Border}
use Rattle.flow_merge.specs.declared.merging.Merging.{Merging}
use Rattle.flow_merge.specs.declared.row_sink.RowSink.{RowSink}
use Rattle.flow_merge.specs.Merging.{AreRowRecordsIn, FirstCrossesIn, FirstOtherIn, FirstTooLargeIn, merging_intervals, merging_plan}
use Rattle.flow_merge.specs.MergeFaults.{fault_of_row, fault_of_table}
use Rattle.flow_merge.specs.RowSink.{HoldsAfter, StandsAfter, TakesRecord}

-- what totals stand for is not too large
none_too_large : (totals : RowTotals) (rows : List RowValue) → AreOf totals rows → AddUpTooLarge rows → ⊥
unfolding AreOf
none_too_large totals rows are = are.small

-- rows of these records, after those before
abbrev pub Behind : Intervals → PlanValue → RowTotals → List RowValue → List DataRecord → Type 0
Behind intervals plan totals rows rs = (more : List RowValue) × AreRowRecordsIn intervals plan rs more × (AreOf totals (rows ++ more) × All (IsRowOf plan) (rows ++ more))

-- under the same plan
pub same_behind : (intervals : Intervals) (plan other : PlanValue) (totals : RowTotals) (rows : List RowValue) (rs : List DataRecord) → other ≡ plan → Behind intervals plan totals rows rs → Behind intervals other totals rows rs
same_behind intervals plan other totals rows rs same h = subst (λ (p : PlanValue). Behind intervals p totals rows rs) (sym same) h

-- the row of a record fits the plan, and some flow contributes to it
pub row_of_plan : (intervals : Intervals) (plan : PlanValue) (r : DataRecord) (row : TableRow) → IsRowRecordIn intervals plan r (value_of row) → FitsRow plan row × (0 < row.flows)
row_of_plan intervals plan r row is =
    let of = is.of_plan in
    (record { interval = of.interval; key = of.fits.key; sums = of.fits.sums; small = of.small; few = of.few }, of.some)

module _ (intervals : Intervals) (plan : PlanValue) (rows : List RowValue) (rs : List DataRecord) (r : DataRecord) where
  pub behind_more : (old new : RowTotals) (row : RowValue) → Behind intervals plan old rows rs → IsRowRecordIn intervals plan r row → ((l : List RowValue) → AreOf old l → AreOf new (l ++ row ∷ []))
      → Behind intervals plan new rows (rs ++ r ∷ [])
  behind_more old new row h is adds =
      let same = append_assoc rows h.0 (row ∷ []) in (
        h.0 ++ row ∷ [],
        all_zipped_more (IsRowRecordIn intervals plan) rs h.0 r row h.1 is,
        (
          subst (AreOf new) same (adds (rows ++ h.0) h.2.0),
          subst (All (IsRowOf plan)) same (All-append (IsRowOf plan) (rows ++ h.0) (row ∷ []) h.2.1 (All-cons (IsRowOf plan) row [] is.of_plan (All-nil (IsRowOf plan)))),
        ),
      )

  other_of : (totals : RowTotals) (m : Merging) (fault : RowFault) → fault ≢ faults.OutOfMemory → merging_intervals m ≡ intervals → merging_plan m ≡ plan → Behind intervals plan totals rows rs → IsRowFaultIn intervals plan r fault
      → FirstOtherIn (merging_intervals m) (merging_plan m) rows (rs ++ r ∷ []) fault
  other_of totals m fault named same_in same h is =
      subst (λ (i : Intervals). FirstOtherIn i (merging_plan m) rows (rs ++ r ∷ []) fault) (sym same_in)
      (subst (λ (p : PlanValue). FirstOtherIn intervals p rows (rs ++ r ∷ []) fault) (sym same) (record { first = rs; next = r; others = []; are = refl; rows = h.0; records = h.1; small = none_too_large totals (rows ++ h.0) h.2.0; other = is; not_memory = named }))

  -- by the fault of a record that is no row's
  pub other_holds : (totals : RowTotals) (m : Merging) (number : ℕ) (fault : RowFault) → merging_intervals m ≡ intervals → merging_plan m ≡ plan → Behind intervals plan totals rows rs → number ≡ capped (length rs + 1) → IsRowFaultIn intervals plan r fault
      → HoldsAfter (Some (fault_of_row number fault)) number m rows (rs ++ r ∷ [])
  other_holds totals m number faults.OutOfMemory same_in same h counted is = tt
  other_holds totals m number faults.Template same_in same h counted is = other_of totals m faults.Template (λ e. cc e) same_in same h is
  other_holds totals m number faults.Fields same_in same h counted is = other_of totals m faults.Fields (λ e. cc e) same_in same h is
  other_holds totals m number faults.Interval same_in same h counted is = other_of totals m faults.Interval (λ e. cc e) same_in same h is
  other_holds totals m number faults.Prefix same_in same h counted is = other_of totals m faults.Prefix (λ e. cc e) same_in same h is
  other_holds totals m number faults.Flows same_in same h counted is = other_of totals m faults.Flows (λ e. cc e) same_in same h is
  other_holds totals m number faults.Border same_in same h counted is =
      subst (λ (i : Intervals). FirstCrossesIn i (merging_plan m) rows (rs ++ r ∷ []) number) (sym same_in)
      (subst (λ (p : PlanValue). FirstCrossesIn intervals p rows (rs ++ r ∷ []) number) (sym same) (record {
        other = record { first = rs; next = r; others = []; are = refl; rows = h.0; records = h.1; small = none_too_large totals (rows ++ h.0) h.2.0; other = is; not_memory = λ e. cc e };
        counted = counted;
      }))

  -- by the fault of totals to which its row was to be added
  pub large_holds : (totals : RowTotals) (m : Merging) (number : ℕ) (row : RowValue) (fault : TableFault) → merging_intervals m ≡ intervals → merging_plan m ≡ plan → Behind intervals plan totals rows rs → IsRowRecordIn intervals plan r row
      → ((l : List RowValue) → AreOf totals l → fault ≡ tables.SumTooLarge → AddUpTooLarge (l ++ row ∷ [])) → HoldsAfter (Some (fault_of_table fault)) number m rows (rs ++ r ∷ [])
  large_holds totals m number row tables.OutOfMemory same_in same h is large = tt
  large_holds totals m number row tables.SumTooLarge same_in same h is large =
      subst (λ (i : Intervals). FirstTooLargeIn i (merging_plan m) rows (rs ++ r ∷ [])) (sym same_in)
      (subst (λ (p : PlanValue). FirstTooLargeIn intervals p rows (rs ++ r ∷ [])) (sym same) (record {
        first = rs ++ r ∷ [];
        others = [];
        are = sym (append-nil (rs ++ r ∷ []));
        rows = h.0 ++ row ∷ [];
        records = all_zipped_more (IsRowRecordIn intervals plan) rs h.0 r row h.1 is;
        large = subst AddUpTooLarge (append_assoc rows h.0 (row ∷ [])) (large (rows ++ h.0) h.2.0 refl);
      }))

-- ---- a sink that has a fault

pub still_holds : (fault : MergeFault) (taken : ℕ) (m : Merging) (rows : List RowValue) (rs : List DataRecord) (r : DataRecord) → HoldsAfter (Some fault) taken m rows rs → HoldsAfter (Some fault) taken m rows (rs ++ r ∷ [])
still_holds OutOfMemory taken m rows rs r h = tt
still_holds SumTooLarge taken m rows rs r h =
    record {
      first = h.first;
      others = h.others ++ r ∷ [];
      are = ap (λ (l : List DataRecord). l ++ r ∷ []) h.are ∙ append_assoc h.first h.others (r ∷ []);
      rows = h.rows;
      records = h.records;
      large = h.large;
    }
still_holds (Row fault) taken m rows rs r h =
    record {
      first = h.first;
      next = h.next;
      others = h.others ++ r ∷ [];
      are = ap (λ (l : List DataRecord). l ++ r ∷ []) h.are ∙ append_assoc h.first (h.next ∷ h.others) (r ∷ []);
      rows = h.rows;
      records = h.records;
      small = h.small;
      other = h.other;
      not_memory = h.not_memory;
    }
still_holds (Border row) taken m rows rs r h =
    record {
      other = record {
        first = h.other.first;
        next = h.other.next;
        others = h.other.others ++ r ∷ [];
        are = ap (λ (l : List DataRecord). l ++ r ∷ []) h.other.are ∙ append_assoc h.other.first (h.other.next ∷ h.other.others) (r ∷ []);
        rows = h.other.rows;
        records = h.other.records;
        small = h.other.small;
        other = h.other.other;
        not_memory = h.other.not_memory;
      };
      counted = h.counted;
    }
still_holds (Session fault) taken m rows rs r h = absurd h
still_holds NotAnExport taken m rows rs r h = absurd h
still_holds Lost taken m rows rs r h = absurd h

still_some : (o : Option MergeFault) (taken : ℕ) (m : Merging) (rows : List RowValue) (rs : List DataRecord) (r : DataRecord) → is_some o ≡ true → HoldsAfter o taken m rows rs → HoldsAfter o taken m rows (rs ++ r ∷ [])
still_some None taken m rows rs r some h = absurd cc
still_some (Some fault) taken m rows rs r some h = still_holds fault taken m rows rs r h

none_is : (o : Option MergeFault) → is_some o ≡ false → o ≡ None
none_is None none = refl
none_is (Some fault) none = absurd cc

-- ---- a record that a sink takes

pub takes_still : (before : RowSink) (r : DataRecord) → is_some before.fault ≡ true → TakesRecord before r before
takes_still before r some = record { plan = refl; intervals = refl; holds = λ rows rs h. still_some before.fault before.taken before.merging rows rs r some h }

-- one record more was counted
counted_more : (n taken number : ℕ) → taken ≡ capped n → number ≡ capped (taken + 1) → number ≡ capped (n + 1)
counted_more n taken number was now = omega (arith, was, now)

pub counted_behind : (rs : List DataRecord) (r : DataRecord) (number : ℕ) → number ≡ capped (length rs + 1) → number ≡ capped (length (rs ++ r ∷ []))
counted_behind rs r number counted = omega (arith, counted, length-append rs (r ∷ []))

pub takes_more : (before : RowSink) (r : DataRecord) (number : ℕ) (m : Merging) (fault : Option MergeFault) (answer : Result (Unit {0}) MergeFault) → is_some before.fault ≡ false → number ≡ capped (before.taken + 1) → fault ≡ result_err answer
    → merging_plan m ≡ merging_plan before.merging → merging_intervals m ≡ merging_intervals before.merging
    → ((rows : List RowValue) (rs : List DataRecord) → StandsAfter before.merging rows rs → number ≡ capped (length rs + 1) → HoldsAfter (result_err answer) number m rows (rs ++ r ∷ [])) → TakesRecord before r (record { merging = m; fault = fault; taken = number })
takes_more before r number m fault answer none counts is same same_in adds =
    record {
      plan = same;
      intervals = same_in;
      holds = λ rows rs h.
          let held = subst (λ (o : Option MergeFault). HoldsAfter o before.taken before.merging rows rs) (none_is before.fault none) h in
          subst (λ (o : Option MergeFault). HoldsAfter o number m rows (rs ++ r ∷ [])) (sym is) (adds rows rs held.0 (counted_more (length rs) before.taken number held.1 counts));
    }

-- the fault of an answer that is one
pub err_is : (answer : Result (Unit {0}) MergeFault) (fault : MergeFault) (P : Option MergeFault → Type 0) → IsErrAnd answer (λ e. e ≡ fault) → P (Some fault) → P (result_err answer)
err_is (Ok x) fault P is p = absurd is
err_is (Err e) fault P is p = subst (λ (f : MergeFault). P (Some f)) (sym is) p

-- ---- a sink that took records

-- what it holds after more records
pub record TakesRecords (before : RowSink) (items : List DataRecord) (after : RowSink) : Type 0 where
  pub plan : merging_plan after.merging ≡ merging_plan before.merging
  pub intervals : merging_intervals after.merging ≡ merging_intervals before.merging
  pub holds : (rows : List RowValue) (rs : List DataRecord) → HoldsAfter before.fault before.taken before.merging rows rs → HoldsAfter after.fault after.taken after.merging rows (rs ++ items)

pub takes_all : (first last : RowSink) (items : List DataRecord) → FoldsTo TakesRecord first items last → TakesRecords first items last
takes_all first last [] is =
    subst (TakesRecords first []) is (record { plan = refl; intervals = refl; holds = λ rows rs h. subst (HoldsAfter first.fault first.taken first.merging rows) (sym (append-nil rs)) h })
takes_all first last (r ∷ rs) c =
    let others = takes_all c.0 last rs c.2 in
    record {
      plan = others.plan ∙ c.1.plan;
      intervals = others.intervals ∙ c.1.intervals;
      holds = λ rows before h. subst (HoldsAfter last.fault last.taken last.merging rows) (append_assoc before (r ∷ []) rs) (others.holds rows (before ++ r ∷ []) (c.1.holds rows before h));
    }

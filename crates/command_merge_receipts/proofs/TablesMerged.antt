-- Tables that are merged one after another.
use Rattle.std.proofs.Common.{◌≡◌, ℕ, ◌+◌, ◌<◌, ◌≤◌, List, [], ◌∷◌, ◌++◌, append_assoc, length, take, drop, get_or, map, Option, Result, Ok, Err, sym, ap, ◌∙◌, subst, arith, take-append-drop}
use Rattle.std.specs.Prelude.{IfErr}
use Rattle.std.specs.Result.{IsErrAnd}
use Rattle.std.proofs.lemmas.List.{flat_map_more, length-take-le, take_all, take_more}
use Rattle.std.proofs.lemmas.Slice.Zip.{all_zipped_more}
use Rattle.flow_table.specs.AddedUp.{rows_in, AreAddedUp}
use Rattle.flow_table.specs.Plans.{PlanValue}
use Rattle.flow_table.specs.SameTables.{RowValue}
use Rattle.flow_table.specs.declared.table.Table.{Table}
use Rattle.flow_export.specs.declared.intervals.Intervals.{Intervals}
use Rattle.flow_merge.specs.Merging.{IsExportIn, StandsFor, merging_intervals, merging_plan}
use Rattle.flow_merge.specs.declared.merging.Merging.{Merging}
use Rattle.report_writing.specs.OpeningLines.{if_verbose}
use Rattle.report_writing.specs.Told.{AreTold}
use Rattle.report_writing.specs.declared.reason.Reason.{Reason}
use Rattle.report_writing.specs.declared.verbosity.Verbosity.{Verbosity}
use Rattle.report_writing.proofs.LinesTold.{both_told}
use Rattle.command_merge.specs.declared.job.MergeJob.{MergeJob}
use Rattle.command_merge.specs.MergeLines.{file_opened_line, files_opened_lines}
use Rattle.command_merge.proofs.FilesTold.{lines_more}
use Rattle.table_parts.specs.declared.tables.PartTable.{PartTable}
use Rattle.command_merge_receipts.specs.Stops.{AddsNext, FailsAfter, FailsAt, FailsNext, IsNotAdded, StopsAt, StopsTables, names_in, own_line}
use Rattle.command_merge_receipts.specs.Tables.{AreExports, AreMergedInto, IsTableText, rows_of}
use Rattle.command_merge.specs.declared.not_merged.NotMerged.TheVariants.{NotOpened, File, Whole}
use Rattle.command_merge_receipts.specs.declared.not_merged.NotMergedParts.{NotMergedParts}
use Rattle.command_merge_receipts.specs.declared.not_merged.NotMergedParts.TheVariants.{NotMerged, Receipt, Part, InputTwice}

abbrev path_in : PartTable → List ℕ
path_in table = table.files.table.now

module _ (Has : List ℕ → List ℕ → Type 0) (intervals : Intervals) (plan : PlanValue) where
  -- the texts of these tables were added, and it stands for all of their rows
  pub record Stands (tables : List PartTable) (m : Merging) : Type 0 where
    pub same_plan : merging_plan m ≡ plan
    pub same_intervals : merging_intervals m ≡ intervals
    pub exports : List (List RowValue)
    pub are : AreExports Has intervals plan tables exports
    pub stands : StandsFor m (rows_of exports)

  pub none_added : (m : Merging) → merging_plan m ≡ plan → merging_intervals m ≡ intervals → StandsFor m [] → Stands [] m
  none_added m same same_in stands = record { same_plan = same; same_intervals = same_in; exports = []; are = record { texts = []; had = tt; given = tt }; stands = stands }

  one_added : (tables : List PartTable) (table : PartTable) (old new : Merging) → AddsNext Has table old new → Stands tables old → Stands (tables ++ table ∷ []) new
  one_added tables table old new next so_far =
      let one = next.adds.adds (rows_of so_far.exports) so_far.stands in
      let export : IsExportIn intervals plan next.text one.more = subst (λ (i : Intervals). IsExportIn i plan next.text one.more) so_far.same_intervals
      (subst (λ (p : PlanValue). IsExportIn (merging_intervals old) p next.text one.more) so_far.same_plan one.export) in
      record {
        same_plan = next.adds.same_plan ∙ so_far.same_plan;
        same_intervals = next.adds.same_intervals ∙ so_far.same_intervals;
        exports = so_far.exports ++ one.more ∷ [];
        are = record {
          texts = so_far.are.texts ++ next.text ∷ [];
          had = all_zipped_more (IsTableText Has) tables so_far.are.texts table next.text so_far.are.had (record { has = next.has; its = next.adds.its });
          given = all_zipped_more (IsExportIn intervals plan) so_far.are.texts so_far.exports next.text one.more so_far.are.given export;
        };
        stands = subst (StandsFor new) (flat_map_more (λ (rows : List RowValue). rows) [] so_far.exports one.more) one.stands;
      }

  module _ (tables : List PartTable) (i : ℕ) (d table : PartTable) (within : i < length tables) (is : get_or tables i d ≡ table) where
    next_one : take (i + 1) tables ≡ take i tables ++ table ∷ []
    next_one = take_more tables i d within ∙ ap (λ (t : PartTable). take i tables ++ t ∷ []) is

    pub one_more : (old new : Merging) → AddsNext Has table old new → Stands (take i tables) old → Stands (take (i + 1) tables) new
    one_more old new next so_far = subst (λ (ts : List PartTable). Stands ts new) (sym next_one) (one_added (take i tables) table old new next so_far)

    -- one isn't added
    pub fails_at : (Refuses : List ℕ → Reason → Type 0) (m : Merging) (not_merged : NotMergedParts) → FailsAfter Has Refuses m (i + 1) table not_merged → Stands (take i tables) m
        → FailsAt Has Refuses intervals plan tables (take i tables) table not_merged
    fails_at Refuses m not_merged fails so_far =
        let number : i + 1 ≡ length (take i tables) + 1 = ap (λ (n : ℕ). n + 1) (sym (length-take-le i tables (omega (arith, within)))) in
        let due = fails (rows_of so_far.exports) so_far.stands in
        record {
          later = drop (i + 1) tables;
          are = sym (take-append-drop (i + 1) tables) ∙ ap (λ (l : List PartTable). l ++ drop (i + 1) tables) next_one ∙ append_assoc (take i tables) (table ∷ []) (drop (i + 1) tables);
          exports = so_far.exports;
          added = so_far.are;
          fails = subst (λ (n : ℕ). FailsNext Has Refuses intervals plan (rows_of so_far.exports) n table not_merged) number
              (subst (λ (p : PlanValue). FailsNext Has Refuses intervals p (rows_of so_far.exports) (i + 1) table not_merged) so_far.same_plan
              (subst (λ (n : Intervals). FailsNext Has Refuses n (merging_plan m) (rows_of so_far.exports) (i + 1) table not_merged) so_far.same_intervals due));
        }

    pub stops_at : (Refuses : List ℕ → Reason → Type 0) (m : Merging) (verbosity : Verbosity) (old mid new : Option (List ℕ)) (Before After : Type 0) (not_merged : NotMergedParts)
        → AreTold old mid Before (files_opened_lines verbosity (map path_in (take i tables))) → IsNotAdded Has Refuses m (i + 1) table verbosity (AreTold mid new After) not_merged → (Before → After) → Stands (take i tables) m
        → StopsAt (FailsAt Has Refuses intervals plan tables) verbosity (AreTold old new After) not_merged
    stops_at Refuses m verbosity old mid new Before After not_merged told not_added kept so_far =
        let number : i + 1 ≡ length (take i tables) + 1 = ap (λ (n : ℕ). n + 1) (sym (length-take-le i tables (omega (arith, within)))) in
        record {
          before = take i tables;
          table = table;
          fails = fails_at Refuses m not_merged not_added.fails so_far;
          told = subst (λ (n : ℕ). AreTold old new After (files_opened_lines verbosity (map path_in (take i tables)) ++ own_line verbosity n table not_merged)) number (both_told old mid new Before After _ _ told not_added.told kept);
        }

    -- (no table is to blame for want of memory)
    pub stops_tables : (Refuses : List ℕ → Reason → Type 0) (m : Merging) (verbosity : Verbosity) (old mid new : Option (List ℕ)) (Before After : Type 0) (not_merged : NotMergedParts)
        → AreTold old mid Before (files_opened_lines verbosity (map path_in (take i tables))) → IsNotAdded Has Refuses m (i + 1) table verbosity (AreTold mid new After) not_merged → (Before → After) → Stands (take i tables) m
        → StopsTables (FailsAt Has Refuses intervals plan tables) tables verbosity (AreTold old new After) not_merged
    stops_tables Refuses m verbosity old mid new Before After (NotMerged (Whole fault)) told not_added kept so_far = absurd (not_added.fails (rows_of so_far.exports) so_far.stands)
    stops_tables Refuses m verbosity old mid new Before After (NotMerged (NotOpened path reason)) told not_added kept so_far = stops_at Refuses m verbosity old mid new Before After (NotMerged (NotOpened path reason)) told not_added kept so_far
    stops_tables Refuses m verbosity old mid new Before After (NotMerged (File number path fault)) told not_added kept so_far = stops_at Refuses m verbosity old mid new Before After (NotMerged (File number path fault)) told not_added kept so_far
    stops_tables Refuses m verbosity old mid new Before After (Receipt number files why) told not_added kept so_far = stops_at Refuses m verbosity old mid new Before After (Receipt number files why) told not_added kept so_far
    stops_tables Refuses m verbosity old mid new Before After (Part number files fault) told not_added kept so_far = stops_at Refuses m verbosity old mid new Before After (Part number files fault) told not_added kept so_far
    stops_tables Refuses m verbosity old mid new Before After (InputTwice number files inputs first second) told not_added kept so_far = stops_at Refuses m verbosity old mid new Before After (InputTwice number files inputs first second) told not_added kept so_far

    pub told_more : (verbosity : Verbosity) (old mid new : Option (List ℕ)) (Before After : Type 0) → AreTold old mid Before (files_opened_lines verbosity (map path_in (take i tables)))
        → AreTold mid new After (if_verbose verbosity (file_opened_line (i + 1) (path_in table))) → (Before → After) → AreTold old new After (files_opened_lines verbosity (map path_in (take (i + 1) tables)))
    told_more verbosity old mid new Before After first then kept =
        let here : path_in (get_or tables i d) ≡ path_in table = ap path_in is in
        subst (λ (l : List ℕ). AreTold old new After l) (sym (lines_more path_in tables verbosity i d within))
        (both_told old mid new Before After _ _ first (subst (λ (name : List ℕ). AreTold mid new After (if_verbose verbosity (file_opened_line (i + 1) name))) (sym here) then) kept)

pub all_merged : (Has : List ℕ → List ℕ → Type 0) (job : MergeJob) (tables : List PartTable) (i : ℕ) (m : Merging) (table : Table) → length tables ≤ i → (so_far : Stands Has job.intervals job.plan.now (take i tables) m)
    → AreAddedUp (rows_of so_far.exports) (rows_in table) → AreMergedInto Has job tables table
all_merged Has job tables i m table all so_far added =
    record { exports = so_far.exports; are = subst (λ (ts : List PartTable). AreExports Has job.intervals job.plan.now ts so_far.exports) (take_all i tables all) so_far.are; added_up = added }

pub all_told : (tables : List PartTable) (i : ℕ) (verbosity : Verbosity) (old new : Option (List ℕ)) (After : Type 0) → length tables ≤ i → AreTold old new After (files_opened_lines verbosity (map path_in (take i tables))) → AreTold old new After (files_opened_lines verbosity (names_in tables))
all_told tables i verbosity old new After all told = subst (λ (ts : List PartTable). AreTold old new After (files_opened_lines verbosity (map path_in ts))) (take_all i tables all) told

-- an error that is passed on
pub passed_on : {T E : Type 0} (answer : Result T E) (passed : E) (P : E → Type 0) → IsErrAnd answer (λ e. e ≡ passed) → P passed → IfErr answer P
passed_on (Ok x) passed P is p = tt
passed_on (Err e) passed P is p = subst P (sym is) p

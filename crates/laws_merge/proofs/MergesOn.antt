-- Exports of tables that are merged one after another.
use Rattle.std.proofs.Common.{◌≡◌, ℕ, List, [], ◌∷◌, ◌++◌, refl, sym, ap, ◌∙◌, subst, Ok, Err, append-nil, append_assoc}
use Rattle.std.specs.Prelude.{flat_map}
use Rattle.std.specs.List.{AllZip}
use Rattle.std.proofs.lemmas.Grind.{flat_map-append}
use Rattle.std.proofs.lemmas.List.{flat_map_more}
use Rattle.std.proofs.lemmas.Slice.Zip.{all_zipped_more}
use Rattle.ipfix_message.specs.declared.fault.MessageFault.TheVariants as messages
use Rattle.ipfix_message.specs.declared.record.DataRecord.{DataRecord}
use Rattle.ipfix_session.specs.Sources.{SourceView}
use Rattle.ipfix_session.specs.declared.fault.SessionFault.TheVariants as sessions
use Rattle.flow_table.specs.AddedUp.{rows_in, AddUpTooLarge, HasTooLargeRow}
use Rattle.flow_table.specs.Plans.{PlanValue}
use Rattle.flow_table.specs.SameTables.{RowValue}
use Rattle.flow_table.specs.Tables.{IsTable}
use Rattle.flow_table.specs.declared.table.Table.{Table}
use Rattle.flow_table.proofs.AddedUp.{too_large_more}
use Rattle.flow_table.proofs.TablesAdded.{too_large_both}
use Rattle.flow_export.proofs.RowFields.{AllZip-append}
use Rattle.flow_merge.specs.Merging.{all_of, AddsExport, GiveExports, GivesExport, GivesExportIn, IsDueIn, ReadsExport, RefusesExport, StandsFor, merging_intervals, merging_plan}
use Rattle.flow_export.specs.declared.intervals.Intervals.{Intervals}
use Rattle.flow_export.specs.declared.intervals.Intervals.TheVariants.{OfPlan}
use Rattle.laws_merge.specs.Exports.{AreExportsOf, HoldsExport, IsExportFault, StopsAt, IsFaultOfExports}
use Rattle.flow_merge.specs.declared.merge_fault.MergeFault.{MergeFault}
use Rattle.flow_merge.specs.declared.merge_fault.MergeFault.TheVariants.{OutOfMemory, SumTooLarge, Session, NotAnExport, Lost, Row, Border}
use Rattle.flow_merge.specs.declared.merging.Merging.{Merging}

-- a fault stays due where what is too large is otherwise
pub still_due : (P Q : Type 0) (fault : MergeFault) → (P → Q) → IsExportFault P fault → IsExportFault Q fault
still_due P Q OutOfMemory f h = tt
still_due P Q SumTooLarge f h = f h
still_due P Q (Session sessions.ReadFailed) f h = tt
still_due P Q (Session sessions.TooManyReads) f h = tt
still_due P Q (Session sessions.SinkClosed) f h = absurd h
still_due P Q (Session sessions.Truncated) f h = absurd h
still_due P Q (Session (sessions.Message messages.OutOfMemory)) f h = tt
still_due P Q (Session (sessions.Message e)) f h = absurd h
still_due P Q NotAnExport f h = absurd h
still_due P Q Lost f h = absurd h
still_due P Q (Row fault) f h = absurd h
still_due P Q (Border row) f h = absurd h

module _ {S : Type 0} (seen : S → SourceView) (plan : PlanValue) where
  -- the tables whose exports sources hold
  held_tables : (sources : List S) (lists : List (List DataRecord)) → AreExportsOf seen plan sources lists → (tables : List Table) × AllZip (IsTable plan) lists tables
  held_tables [] [] h = ([], tt)
  held_tables [] (rs ∷ lists) h = absurd h
  held_tables (s ∷ sources) [] h = absurd h
  held_tables (s ∷ sources) (rs ∷ lists) h =
      let others = held_tables sources lists h.1 in
      (h.0.table ∷ others.0, (h.0.export.is_table, others.1))

  -- the tables of the first lists are merged, and the sources that wait hold the exports of the others
  pub record Merged (lists : List (List DataRecord)) (waiting : List S) (m : Merging) : Type 0 where
    pub first : List (List DataRecord)
    pub tables : List Table
    pub are_tables : AllZip (IsTable plan) first tables
    pub stands : StandsFor m (flat_map rows_in tables)
    pub others : List (List DataRecord)
    pub wait : AreExportsOf seen plan waiting others
    pub all : lists ≡ first ++ others

  -- the sources before those that wait gave exports, for whose rows it stands
  pub record HasRead (limit : ℕ) (sources waiting : List S) (m : Merging) : Type 0 where
    pub used : List S
    pub exports : List (List RowValue)
    pub split : sources ≡ used ++ waiting
    pub given : GiveExports seen limit plan used exports
    pub stands : StandsFor m (flat_map (λ rows. rows) exports)

  -- what holds while sources are merged
  pub record MergesOn (limit : ℕ) (sources waiting : List S) (m : Merging) : Type 0 where
    pub same_plan : merging_plan m ≡ plan
    pub of_plan : merging_intervals m ≡ OfPlan
    pub read : HasRead limit sources waiting m
    pub merged : (lists : List (List DataRecord)) → AreExportsOf seen plan sources lists → Merged lists waiting m

  pub none_merged : (limit : ℕ) (sources : List S) (m : Merging) → merging_plan m ≡ plan → merging_intervals m ≡ OfPlan → StandsFor m [] → MergesOn limit sources sources m
  none_merged limit sources m same of_plan stands =
      record {
        same_plan = same;
        of_plan = of_plan;
        read = record { used = []; exports = []; split = refl; given = tt; stands = stands };
        merged = λ lists h. record { first = []; tables = []; are_tables = tt; stands = stands; others = lists; wait = h; all = refl };
      }

  -- the next source's export
  pub next_held : (lists : List (List DataRecord)) (s : S) (waiting : List S) (m : Merging) (now : Merged lists (s ∷ waiting) m) → (rs : List DataRecord) × (later : List (List DataRecord))
      × HoldsExport plan (seen s) rs × AreExportsOf seen plan waiting later × (now.others ≡ rs ∷ later)
  next_held lists s waiting m now = by now.others now.wait
    where
      by : (others : List (List DataRecord)) → AreExportsOf seen plan (s ∷ waiting) others → (rs : List DataRecord) × (later : List (List DataRecord))
          × HoldsExport plan (seen s) rs × AreExportsOf seen plan waiting later × (others ≡ rs ∷ later)
      by [] h = absurd h
      by (rs ∷ later) h = (rs, later, h.0, h.1, refl)

  -- one more was merged
  pub one_merged : (lists : List (List DataRecord)) (s : S) (waiting : List S) (old new : Merging) (now : Merged lists (s ∷ waiting) old)
      → ((rs : List DataRecord) (holds : HoldsExport plan (seen s) rs) → StandsFor new (flat_map rows_in now.tables ++ rows_in holds.table)) → Merged lists waiting new
  one_merged lists s waiting old new now adds =
      let next = next_held lists s waiting old now in
      record {
        first = now.first ++ next.0 ∷ [];
        tables = now.tables ++ next.2.table ∷ [];
        are_tables = AllZip-append (IsTable plan) now.first now.tables (next.0 ∷ []) (next.2.table ∷ []) now.are_tables (next.2.export.is_table, tt);
        stands = subst (StandsFor new) (flat_map_more rows_in [] now.tables next.2.table) (adds next.0 next.2);
        others = next.1;
        wait = next.3;
        all = now.all ∙ ap (λ (l : List (List DataRecord)). now.first ++ l) next.4 ∙ sym (append_assoc now.first (next.0 ∷ []) next.1);
      }

  -- what is too large with one more is too large with all
  pub too_large_all : (lists : List (List DataRecord)) (s : S) (waiting : List S) (m : Merging) (now : Merged lists (s ∷ waiting) m)
      → (next : (rs : List DataRecord) × (later : List (List DataRecord)) × HoldsExport plan (seen s) rs × AreExportsOf seen plan waiting later × (now.others ≡ rs ∷ later))
      → AddUpTooLarge (flat_map rows_in now.tables ++ rows_in next.2.table) → HasTooLargeRow plan (all_of lists)
  too_large_all lists s waiting m now next large =
      let later = held_tables waiting next.1 next.3 in
      let tables = now.tables ++ next.2.table ∷ later.0 in
      let are = AllZip-append (IsTable plan) now.first now.tables (next.0 ∷ next.1) (next.2.table ∷ later.0) now.are_tables (next.2.export.is_table, later.1) in
      let rows : flat_map rows_in tables ≡ (flat_map rows_in now.tables ++ rows_in next.2.table) ++ flat_map rows_in later.0 =
      flat_map-append rows_in now.tables (next.2.table ∷ later.0) ∙ sym (append_assoc (flat_map rows_in now.tables) (rows_in next.2.table) (flat_map rows_in later.0)) in
      let whole = subst AddUpTooLarge (sym rows) (too_large_more (flat_map rows_in now.tables ++ rows_in next.2.table) (flat_map rows_in later.0) large) in
      let same : lists ≡ now.first ++ next.0 ∷ next.1 = now.all ∙ ap (λ (l : List (List DataRecord)). now.first ++ l) next.4 in
      subst (λ (l : List (List DataRecord)). HasTooLargeRow plan (all_of l)) (sym same) ((too_large_both plan (now.first ++ next.0 ∷ next.1) tables are).0 whole)

  -- all were merged
  pub all_merged : (lists : List (List DataRecord)) (m : Merging) → Merged lists [] m → (tables : List Table) × AllZip (IsTable plan) lists tables × StandsFor m (flat_map rows_in tables)
  all_merged lists m now = by now.others now.wait now.all
    where
      by : (others : List (List DataRecord)) → AreExportsOf seen plan [] others → lists ≡ now.first ++ others → (tables : List Table) × AllZip (IsTable plan) lists tables × StandsFor m (flat_map rows_in tables)
      by [] h same = (now.tables, subst (λ (l : List (List DataRecord)). AllZip (IsTable plan) l now.tables) (sym (same ∙ append-nil now.first)) now.are_tables, now.stands)
      by (rs ∷ others) h same = absurd h

  -- ---- a step, and the end

  -- a source was read
  more_read : (limit : ℕ) (sources : List S) (s : S) (waiting : List S) (old new : Merging) (after : S) (read : HasRead limit sources (s ∷ waiting) old) → merging_plan old ≡ plan → merging_intervals old ≡ OfPlan
      → AddsExport seen limit old s after (flat_map (λ rows. rows) read.exports) new → HasRead limit sources waiting new
  more_read limit sources s waiting old new after read same of_plan adds =
      record {
        used = read.used ++ s ∷ [];
        exports = read.exports ++ adds.more ∷ [];
        split = read.split ∙ sym (append_assoc read.used (s ∷ []) waiting);
        given = all_zipped_more (λ source rows. (left : S) × GivesExport seen limit plan source left rows) read.used read.exports s adds.more read.given
            (after, subst (λ (p : PlanValue). GivesExport seen limit p s after adds.more) same (subst (λ (i : Intervals). GivesExportIn seen limit i (merging_plan old) s after adds.more) of_plan adds.gives_export));
        stands = subst (StandsFor new) (flat_map_more (λ r. r) [] read.exports adds.more) adds.stands;
      }

  pub merged_on : (limit : ℕ) (sources before : List S) (s : S) (waiting : List S) (old new : Merging) (after : S) → before ≡ s ∷ waiting → MergesOn limit sources before old → merging_plan new ≡ merging_plan old → merging_intervals new ≡ merging_intervals old
      → ReadsExport {E = MergeFault} seen limit old s after (Ok new)
      → (merging_intervals old ≡ OfPlan → (rows : List RowValue) (rs : List DataRecord) (holds : HoldsExport (merging_plan old) (seen s) rs) → StandsFor old rows → StandsFor new (rows ++ rows_in holds.table)) → MergesOn limit sources waiting new
  merged_on limit sources before s waiting old new after is on same same_in adds exports =
      let read = subst (λ (l : List S). HasRead limit sources l old) is on.read in
      record {
        same_plan = same ∙ on.same_plan;
        of_plan = same_in ∙ on.of_plan;
        read = more_read limit sources s waiting old new after read on.same_plan on.of_plan (adds (flat_map (λ rows. rows) read.exports) read.stands);
        merged = λ lists h.
            let now = subst (λ (l : List S). Merged lists l old) is (on.merged lists h) in
            one_merged lists s waiting old new now (λ rs.
            subst (λ (p : PlanValue). (holds : HoldsExport p (seen s) rs) → StandsFor new (flat_map rows_in now.tables ++ rows_in holds.table)) on.same_plan
            (λ holds. exports on.of_plan (flat_map rows_in now.tables) rs holds now.stands));
      }

  -- a source was refused
  pub refused_on : (limit : ℕ) (sources before : List S) (s : S) (waiting : List S) (old : Merging) (fault : MergeFault) → before ≡ s ∷ waiting → MergesOn limit sources before old
      → (merging_intervals old ≡ OfPlan → (rows : List RowValue) (rs : List DataRecord) (holds : HoldsExport (merging_plan old) (seen s) rs) → StandsFor old rows → IsExportFault (AddUpTooLarge (rows ++ rows_in holds.table)) fault)
      → IsFaultOfExports seen plan sources fault
  refused_on limit sources before s waiting old fault is on refuses = λ lists h.
      let now = subst (λ (l : List S). Merged lists l old) is (on.merged lists h) in
      let next = next_held lists s waiting old now in
      still_due _ _ fault (too_large_all lists s waiting old now next)
      (subst (λ (p : PlanValue). (holds : HoldsExport p (seen s) next.0) → IsExportFault (AddUpTooLarge (flat_map rows_in now.tables ++ rows_in holds.table)) fault) on.same_plan
      (λ holds. refuses on.of_plan (flat_map rows_in now.tables) next.0 holds now.stands) next.2)

  pub stopped_on : (limit : ℕ) (sources before : List S) (s : S) (waiting : List S) (old : Merging) (after : S) (fault : MergeFault) → before ≡ s ∷ waiting → MergesOn limit sources before old
      → RefusesExport {X = Merging} seen limit old s after (Err fault) → StopsAt seen limit plan sources fault
  stopped_on limit sources before s waiting old after fault is on due =
      let read = subst (λ (l : List S). HasRead limit sources l old) is on.read in
      let rows = flat_map (λ r. r) read.exports in
      record {
        first = read.used;
        next = s;
        others = waiting;
        are = read.split;
        exports = read.exports;
        given = read.given;
        after = after;
        due = subst (λ (i : Intervals). IsDueIn seen limit i plan rows s after fault) on.of_plan
            (subst (λ (p : PlanValue). IsDueIn seen limit (merging_intervals old) p rows s after fault) on.same_plan (due rows read.stands));
      }

  -- no source waits
  pub merged_all : (limit : ℕ) (sources waiting : List S) (m : Merging) → waiting ≡ [] → MergesOn limit sources waiting m → (lists : List (List DataRecord)) → AreExportsOf seen plan sources lists
      → (tables : List Table) × AllZip (IsTable plan) lists tables × StandsFor m (flat_map rows_in tables)
  merged_all limit sources waiting m none on lists h = all_merged lists m (subst (λ (l : List S). Merged lists l m) none (on.merged lists h))

  pub read_all : (limit : ℕ) (sources waiting : List S) (m : Merging) → waiting ≡ [] → (on : MergesOn limit sources waiting m) → GiveExports seen limit plan sources on.read.exports
  read_all limit sources waiting m none on =
      let read = on.read in
      let all : sources ≡ read.used = read.split ∙ ap (λ (l : List S). read.used ++ l) none ∙ append-nil read.used in
      subst (λ (l : List S). GiveExports seen limit plan l read.exports) (sym all) read.given

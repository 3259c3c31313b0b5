-- Files that are merged one after another.
use Rattle.std.proofs.Common.{◌≡◌, ℕ, ◌+◌, ◌<◌, ◌≤◌, List, [], ◌∷◌, ◌++◌, length, take, get_or, map, All, Option, sym, ◌∙◌, subst}
use Rattle.std.specs.List.{AllZip}
use Rattle.std.proofs.lemmas.List.{flat_map_more, take_more, take_all}
use Rattle.std.proofs.lemmas.List.Elements.{All-nil, All-push}
use Rattle.std.proofs.lemmas.Slice.Zip.{all_zipped_more}
use Rattle.ipfix_session.specs.Sources.{SourceView}
use Rattle.flow_table.specs.AddedUp.{rows_in, AreAddedUp}
use Rattle.flow_table.specs.Plans.{PlanValue}
use Rattle.flow_table.specs.SameTables.{RowValue}
use Rattle.flow_table.specs.declared.table.Table.{Table}
use Rattle.flow_merge.specs.Merging.{AddsExport, CannotAdd, GiveExportsIn, GivesExportIn, IsDueIn, StandsFor, merging_intervals, merging_plan}
use Rattle.flow_export.specs.declared.intervals.Intervals.{Intervals}
use Rattle.flow_merge.specs.declared.merging.Merging.{Merging}
use Rattle.input_sources.specs.Had.{AreOpened, NextOnes, IsOpened, IsUnread}
use Rattle.std.specs.declared.io.ErrorKind.{ErrorKind}
use Rattle.command_merge.specs.declared.not_merged.FileFault.{FileFault}
use Rattle.command_merge.specs.Merges.{AddsFile, IsMerged}
use Rattle.command_merge.specs.MergesStopped.{rows_of, FailsFile, HasReason, LastFails}
use Rattle.input_sources.proofs.Had.{NextOnes-nil, NextOnes-trans}
use Rattle.ipfix_session.specs.declared.driver.TheConstants.{READ_LIMIT}

module _ {S X : Type 0} (seen : S → SourceView) (opens : X → S → Type 0) (intervals : Intervals) (plan : PlanValue) (start : Option (List S)) where
  -- the sources of these paths were opened and read, and it stands for all of their rows
  pub record Stands (paths : List X) (now : Option (List S)) (m : Merging) : Type 0 where
    pub same_plan : merging_plan m ≡ plan
    pub same_intervals : merging_intervals m ≡ intervals
    pub sources : List S
    pub opened : AllZip opens paths sources
    pub came : NextOnes start now sources
    pub unread : All (IsUnread seen) sources
    pub exports : List (List RowValue)
    pub given : GiveExportsIn seen READ_LIMIT intervals plan sources exports
    pub stands : StandsFor m (rows_of exports)

  pub none_read : (m : Merging) → merging_plan m ≡ plan → merging_intervals m ≡ intervals → StandsFor m [] → Stands [] start m
  none_read m same same_in stands =
      record { same_plan = same; same_intervals = same_in; sources = []; opened = tt; came = NextOnes-nil start; unread = All-nil (IsUnread seen); exports = []; given = tt; stands = stands }

  one_read : (paths : List X) (path : X) (before after : Option (List S)) (opens_now : X → S → Type 0) (old new : Merging) → ((x : X) (s : S) → opens_now x s → opens x s)
      → AddsFile seen (IsOpened (opens_now path) before after) old new → Stands paths before old → Stands (paths ++ path ∷ []) after new
  one_read paths path before after opens_now old new same file so_far =
      let one = file.adds (rows_of so_far.exports) so_far.stands in
      record {
        same_plan = file.same_plan ∙ so_far.same_plan;
        same_intervals = file.same_intervals ∙ so_far.same_intervals;
        sources = so_far.sources ++ file.before ∷ [];
        opened = all_zipped_more opens paths so_far.sources path file.before so_far.opened (same path file.before file.had.asked);
        came = NextOnes-trans start before after so_far.sources (file.before ∷ []) so_far.came file.had.came;
        unread = All-push (IsUnread seen) so_far.sources file.before so_far.unread file.unread;
        exports = so_far.exports ++ one.more ∷ [];
        given = all_zipped_more (λ source rows. (left : S) × GivesExportIn seen READ_LIMIT intervals plan source left rows) so_far.sources so_far.exports file.before one.more so_far.given (
          file.after,
          subst (λ (i : Intervals). GivesExportIn seen READ_LIMIT i plan file.before file.after one.more) so_far.same_intervals
              (subst (λ (p : PlanValue). GivesExportIn seen READ_LIMIT (merging_intervals old) p file.before file.after one.more) so_far.same_plan one.gives_export),
        );
        stands = subst (StandsFor new) (flat_map_more (λ (rows : List RowValue). rows) [] so_far.exports one.more) one.stands;
      }

  all_read : (paths : List X) (now : Option (List S)) (m : Merging) (table : Table) (so_far : Stands paths now m) → AreAddedUp (rows_of so_far.exports) (rows_in table) → IsMerged seen (AreOpened opens paths start now) intervals plan table
  all_read paths now m table so_far added =
      record {
        sources = so_far.sources;
        had = record { one_each = so_far.opened; came = so_far.came };
        unread = so_far.unread;
        added_up = record { exports = so_far.exports; given = so_far.given; added_up = added };
      }

  -- one more of these paths
  pub one_path : (paths : List X) (i : ℕ) (path : X) (before after : Option (List S)) (opens_now : X → S → Type 0) (old new : Merging) → i < length paths → ((x : X) (s : S) → opens_now x s → opens x s)
      → AddsFile seen (IsOpened (opens_now (get_or paths i path)) before after) old new → Stands (take i paths) before old → Stands (take (i + 1) paths) after new
  one_path paths i path before after opens_now old new less same file so_far =
      subst (λ (ps : List X). Stands ps after new) (sym (take_more paths i path less)) (one_read (take i paths) (get_or paths i path) before after opens_now old new same file so_far)

  -- all of them
  pub all_paths : (paths : List X) (i : ℕ) (now : Option (List S)) (m : Merging) (table : Table) → length paths ≤ i → (so_far : Stands (take i paths) now m)
      → AreAddedUp (rows_of so_far.exports) (rows_in table) → IsMerged seen (AreOpened opens paths start now) intervals plan table
  all_paths paths i now m table all so_far added =
      subst (λ (ps : List X). IsMerged seen (AreOpened opens ps start now) intervals plan table) (take_all i paths all) (all_read (take i paths) now m table so_far added)

pub adds_file : {S : Type 0} (seen : S → SourceView) (IsHad : S → Type 0) (old new : Merging) (before after : S) → IsHad before → IsUnread seen before → merging_plan new ≡ merging_plan old → merging_intervals new ≡ merging_intervals old
    → ((rows : List RowValue) → StandsFor old rows → AddsExport seen READ_LIMIT old before after rows new) → AddsFile seen IsHad old new
adds_file seen IsHad old new before after had unread same same_in adds =
    record { before = before; after = after; had = had; unread = unread; same_plan = same; same_intervals = same_in; adds = adds }

pub fails_file : {S : Type 0} (seen : S → SourceView) (failure : S → Option ErrorKind) (IsHad : S → Type 0) (merging : Merging) (before after : S) (failed : FileFault) → IsHad before → IsUnread seen before
    → ((rows : List RowValue) → StandsFor merging rows → CannotAdd seen READ_LIMIT merging rows before after failed.fault) → HasReason (failure after) failed → FailsFile seen failure IsHad merging failed
fails_file seen failure IsHad merging before after failed had unread due why = record { before = before; after = after; had = had; unread = unread; due = due; why = why }

-- the names of paths, for the paths
zip_names : {P S : Type 0} (opens : List ℕ → S → Type 0) (name_of : P → List ℕ) (paths : List P) (sources : List S) → AllZip (λ path. opens (name_of path)) paths sources → AllZip opens (map name_of paths) sources
zip_names opens name_of [] [] all = all
zip_names opens name_of [] (s ∷ sources) all = absurd all
zip_names opens name_of (p ∷ paths) [] all = absurd all
zip_names opens name_of (p ∷ paths) (s ∷ sources) all = (all.0, zip_names opens name_of paths sources all.1)

-- the file of one more path has a fault
pub last_fails : {P S : Type 0} (seen : S → SourceView) (failure : S → Option ErrorKind) (opens : List ℕ → S → Type 0) (name_of : P → List ℕ) (intervals : Intervals) (plan : PlanValue) (start : Option (List S)) (paths : List P) (i : ℕ) (d : P) (before after : Option (List S)) (opens_now : List ℕ → S → Type 0)
    (merging : Merging) (fault : FileFault) → i < length paths → ((x : List ℕ) (s : S) → opens_now x s → opens x s) → Stands seen (λ path. opens (name_of path)) intervals plan start (take i paths) before merging
    → FailsFile seen failure (IsOpened (opens_now (name_of (get_or paths i d))) before after) merging fault → LastFails seen failure opens start after intervals plan (map name_of (take (i + 1) paths)) fault
last_fails {P} seen failure opens name_of intervals plan start paths i d before after opens_now merging fault less same so_far fails =
    let opened = all_zipped_more (λ path. opens (name_of path)) (take i paths) so_far.sources (get_or paths i d) fails.before so_far.opened (same _ fails.before fails.had.asked) in
    record {
      sources = so_far.sources;
      last = fails.before;
      left = fails.after;
      opened = record {
        one_each = zip_names opens name_of (take (i + 1) paths) (so_far.sources ++ fails.before ∷ []) (subst (λ (ps : List P). AllZip (λ path. opens (name_of path)) ps (so_far.sources ++ fails.before ∷ [])) (sym (take_more paths i d less)) opened);
        came = NextOnes-trans start before after so_far.sources (fails.before ∷ []) so_far.came fails.had.came;
      };
      unread = All-push (IsUnread seen) so_far.sources fails.before so_far.unread fails.unread;
      exports = so_far.exports;
      given = so_far.given;
      due = subst (λ (i : Intervals). IsDueIn seen READ_LIMIT i plan (rows_of so_far.exports) fails.before fails.after fault.fault) so_far.same_intervals
          (subst (λ (p : PlanValue). IsDueIn seen READ_LIMIT (merging_intervals merging) p (rows_of so_far.exports) fails.before fails.after fault.fault) so_far.same_plan (fails.due (rows_of so_far.exports) so_far.stands));
      why = fails.why;
    }

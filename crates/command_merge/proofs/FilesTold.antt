-- Files that were told as opened, one after another, until a merge ended.
use Rattle.std.proofs.Common.{◌≡◌, ℕ, ◌+◌, ◌<◌, ◌≤◌, suc, List, ◌++◌, length, take, drop, get_or, map, take-append-drop, Option, Result, refl, sym, ap, ◌∙◌, subst, append-nil, arith, inr}
use Rattle.std.specs.Prelude.{OnErr, OnOk}
use Rattle.std.specs.Borrow.{Bor}
use Rattle.std.specs.Io.KnownBytes.{Appends}
use Rattle.std.proofs.lemmas.List.{length-map, map-append, map_more, length-take-le, take_all}
use Rattle.report_writing.specs.declared.reason.Reason.{Reason}
use Rattle.report_writing.specs.declared.status.Status.{Status}
use Rattle.report_writing.specs.OpeningLines.{if_verbose}
use Rattle.report_writing.specs.Told.{AreTold}
use Rattle.report_writing.specs.declared.verbosity.Verbosity.{Verbosity}
use Rattle.report_writing.proofs.Numbering.{numbered-last}
use Rattle.flow_table.specs.declared.table.Table.{Table}
use Rattle.flow_merge.specs.declared.merge_fault.MergeFault.{MergeFault}
use Rattle.command_merge.specs.declared.not_merged.FileFault.{FileFault}
use Rattle.command_merge.specs.MergeLines.{file_opened_line, files_opened_lines, merged_line, not_merged_lines, status_of}
use Rattle.command_merge.specs.Merges.{IsNotAddedFor, StopsMerge}
use Rattle.command_merge.specs.MergesTold.{TellsNotMerged}
use Rattle.command_merge.specs.declared.not_merged.NotMerged.{NotMerged}
use Rattle.command_merge.specs.declared.not_merged.NotMerged.TheVariants.{NotOpened, File, Whole}
use Rattle.report_writing.proofs.LinesTold.{both_told, told_then}
use Rattle.input_sources.proofs.InputsTold.{map-at}

module _ {P : Type 0} (name_of : P → List ℕ) (paths : List P) where
  abbrev pub first_names : ℕ → List (List ℕ)
  first_names i = map name_of (take i paths)

  names_count : (i : ℕ) → i ≤ length paths → length (first_names i) ≡ i
  names_count i within = length-map (take i paths) name_of ∙ length-take-le i paths within

  pub lines_more : (verbosity : Verbosity) (i : ℕ) (d : P) → i < length paths
      → files_opened_lines verbosity (first_names (i + 1)) ≡ files_opened_lines verbosity (first_names i) ++ if_verbose verbosity (file_opened_line (i + 1) (name_of (get_or paths i d)))
  lines_more verbosity i d less =
      let name = name_of (get_or paths i d) in
      let line = λ (n : ℕ) (name : List ℕ). if_verbose verbosity (file_opened_line n name) in
      ap (λ (l : List (List ℕ)). files_opened_lines verbosity l) (map_more name_of paths i d less) ∙ numbered-last line (first_names i) name
      ∙ ap (λ (n : ℕ). files_opened_lines verbosity (first_names i) ++ line (n + 1) name) (names_count i (omega (arith, less)))

  -- all of them, and then a fault that is no file's
  module _ (old new : Option (List ℕ)) (After : Type 0) (verbosity : Verbosity) (i : ℕ) (all : length paths ≤ i) (told : AreTold old new After (files_opened_lines verbosity (first_names i))) where
    pub all_told : AreTold old new After (files_opened_lines verbosity (map name_of paths))
    all_told = subst (λ (ps : List P). AreTold old new After (files_opened_lines verbosity (map name_of ps))) (take_all i paths all) told

    pub stops_whole : (IsDueTo : List (List ℕ) → NotMerged → Type 0) (fault : MergeFault) → IsDueTo (map name_of paths) (Whole fault) → StopsMerge IsDueTo (map name_of paths) verbosity (AreTold old new After) (Whole fault)
    stops_whole IsDueTo fault due = record { opened = map name_of paths; due = due; stops = inr refl; told = all_told }

  module _ (old mid new : Option (List ℕ)) (Before After : Type 0) (verbosity : Verbosity) where
    -- one more
    pub one_file_told : (i : ℕ) (d : P) → i < length paths → AreTold old mid Before (files_opened_lines verbosity (first_names i))
        → AreTold mid new After (if_verbose verbosity (file_opened_line (i + 1) (name_of (get_or paths i d)))) → (Before → After) → AreTold old new After (files_opened_lines verbosity (first_names (i + 1)))
    one_file_told i d less first then kept =
        subst (λ (l : List ℕ). AreTold old new After l) (sym (lines_more verbosity i d less)) (both_told old mid new Before After _ _ first then kept)

    -- one that isn't added
    module _ (IsDueTo : List (List ℕ) → NotMerged → Type 0) (Refuses : List ℕ → Reason → Type 0) (Fails : FileFault → Type 0) (i : ℕ) (d : P)
        (refused : (path : Bor (List ℕ)) (reason : Reason) → Refuses path.now reason → IsDueTo (first_names i) (NotOpened path reason))
        (failed : (number : ℕ) (path : Bor (List ℕ)) (fault : FileFault) → Fails fault → IsDueTo (first_names (i + 1)) (File number path fault)) where
      pub stops_merge : (not_merged : NotMerged) → i < length paths → AreTold old mid Before (files_opened_lines verbosity (first_names i))
          → IsNotAddedFor (Refuses (name_of (get_or paths i d))) Fails verbosity (i + 1) (name_of (get_or paths i d)) (AreTold mid new After) not_merged → (Before → After) → StopsMerge IsDueTo (map name_of paths) verbosity (AreTold old new After) not_merged
      stops_merge (NotOpened path reason) less first not_added kept =
          record {
            opened = first_names i;
            due = refused path reason (rw not_added.0 not_added.1);
            stops = (map name_of (drop (suc i) paths), rw not_added.0 (map-at name_of paths i d less));
            told = subst (λ (l : List ℕ). AreTold old new After l) (append-nil _) (both_told old mid new Before After _ _ first not_added.2 kept);
          }
      stops_merge (File number path fault) less first not_added kept =
          record {
            opened = first_names (i + 1);
            due = failed number path fault not_added.2;
            stops = (
              first_names i,
              map name_of (drop (i + 1) paths),
              rw not_added.1 (map_more name_of paths i d less),
              ap (λ (l : List P). map name_of l) (sym (take-append-drop (i + 1) paths)) ∙ map-append name_of (take (i + 1) paths) (drop (i + 1) paths),
              not_added.0 ∙ sym (names_count (i + 1) (omega (arith, less))),
            );
            told = one_file_told i d less first not_added.3 kept;
          }
      stops_merge (Whole fault) less first not_added kept = absurd not_added

-- why they weren't merged, after those that were opened
pub tells_not_merged : {T E : Type 0} (IsDueTo : List (List ℕ) → NotMerged → Type 0) (names : List (List ℕ)) (verbosity : Verbosity) (old mid new : Option (List ℕ)) (Before After : Type 0) (not_merged : NotMerged) (status : Status) (answer : Result T E)
    → StopsMerge IsDueTo names verbosity (AreTold old mid Before) not_merged → OnOk answer (Appends mid new (not_merged_lines verbosity not_merged)) → OnErr answer After → (Before → After)
    → status ≡ status_of not_merged → TellsNotMerged IsDueTo names verbosity (AreTold old new After) status
tells_not_merged IsDueTo names verbosity old mid new Before After not_merged status answer stopped ok err kept is =
    record {
      opened = stopped.opened;
      not_merged = not_merged;
      due = stopped.due;
      stops = stopped.stops;
      told = told_then old mid new Before After answer _ _ stopped.told ok err kept;
      status_is = is;
    }

-- the counts are those of the files and of the table
pub merged_told : {P T E : Type 0} (answer : Result T E) (mid new : Option (List ℕ)) (name_of : P → List ℕ) (paths : List P) (table : Table) (files rows : ℕ) → files ≡ length paths → rows ≡ length table.rows.items
    → OnOk answer (Appends mid new (merged_line files rows)) → OnOk answer (Appends mid new (merged_line (length (map name_of paths)) (length table.rows.items)))
merged_told answer mid new name_of paths table files rows is_files is_rows told =
    subst (λ (n : ℕ). OnOk answer (Appends mid new (merged_line n (length table.rows.items)))) (is_files ∙ sym (length-map paths name_of))
    (subst (λ (n : ℕ). OnOk answer (Appends mid new (merged_line files n))) is_rows told)

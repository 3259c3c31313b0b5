-- Which files are left out of the table of a period, by what each gives by itself.
use Rattle.std.specs.Prelude.{◌≡◌, ℕ, List, [], ◌∷◌, ◌++◌, Option, None, Some, All, length, map, slice_index_or, string_bytes}
use Rattle.std.specs.Borrow.{Bor}
use Rattle.std.specs.List.{AllZip}
use Rattle.std.specs.declared.alloc.Global.{Global}
use Rattle.std.specs.declared.string.String.{String}
use Rattle.ipfix_message.specs.declared.record.DataRecord.{DataRecord}
use Rattle.ipfix_session.specs.Sources.{SourceView}
use Rattle.ipfix_session.specs.declared.source.Source as source
use Rattle.input_sources.specs.declared.opening.OpenSource as opening
use Rattle.report_writing.specs.declared.write_lines.WriteLines as writing
use Rattle.report_writing.specs.Told.{AreToldTo}
use Rattle.report_writing.specs.declared.origin.Origin.{Origin}
use Rattle.flow_table.specs.Fitting.{FitsPlan}
use Rattle.flow_table.specs.Plans.{PlanValue}
use Rattle.flow_table.specs.Tables.{IsTable}
use Rattle.flow_table.specs.declared.table.Table.{Table}
use Rattle.largest_sessions.specs.LeftOut.{AreLeftOut}
use Rattle.largest_sessions.specs.SessionNumbers.{by_records, numbers_of_plan}
use Rattle.flow_collect.specs.Headline.{all_of}
use Rattle.flow_collect.specs.InFull.{FullSerialAnswer, IsGivenInContext}
use Rattle.flow_collect.specs.Refusals.{AreTooLargeInContext}
use Rattle.input_sources.specs.Had.{PathsAreOpened}
use Rattle.input_sources.specs.Origins.{AreFiles}
use Rattle.command_collect.specs.Engines.{CollectsBy}
use Rattle.command_collect.specs.Exporters.{in_context}
use Rattle.command_collect.specs.declared.job.CollectJob.{CollectJob}
use Rattle.period_collect.specs.Exporters.{IsJobWith}
use Rattle.period_collect.specs.LeftOutFiles.{Alone, AreFilesLeftOut, kept_place, left_out_lines, lists_of, paths_at, places_at, places_with, places_without, same_line}
use Rattle.period_collect.specs.Paths.{AreFilePaths}
use Rattle.period_collect.specs.declared.maker.TableMaker.{TableMaker}
use Rattle.period_collect.specs.declared.parting.OwnTables.{OwnTables}

-- these are the records that sources gave, by the headline; or a sum of them is too large
abbrev pub GiveAlone : {S : Type 0} → (S → SourceView) → CollectJob → List S → List Origin → Alone → Type 0
GiveAlone seen job sources origins None = AreTooLargeInContext seen job.plan.now (in_context job sources origins)
GiveAlone {S = S} seen job sources origins (Some rs) =
    (c : FullSerialAnswer S) × (by : CollectsBy job.engine (IsGivenInContext seen) (in_context job sources origins) job.plan.now c) × (rs ≡ all_of by.headline.records)

-- ---- the table of a file by itself

-- if no sum of it is too large
abbrev pub IsOwnTable : PlanValue → Alone → Option Table → Type 0
IsOwnTable plan None None = Unit {0}
IsOwnTable plan (Some rs) (Some table) = IsTable plan rs table × FitsPlan plan table
IsOwnTable plan alone table = ⊥

-- the tables of several and their places, and the places of the others
pub record AreOwn (plan : PlanValue) (alone : List Alone) (own : OwnTables) : Type 0 where
  pub tables : AllZip (IsTable plan) (lists_of alone) own.tables.items
  pub fits : All (FitsPlan plan) own.tables.items
  pub places : own.places.items ≡ places_with 0 alone
  pub others : own.others.items ≡ places_without 0 alone

module _ {S O E : Type 0} {as_source : source.Ghosts S} {as_opener : opening.Ghosts O S} {as_writer : writing.Ghosts E} where
  -- the file of a path was opened and collected by itself, by the job with the exporter that its name says, and no line was told
  pub record IsAlone (before after : TableMaker S O E as_source as_opener as_writer) (path : List ℕ) (alone : Alone) : Type 0 where
    pub word : Bor (List ℕ)
    pub is_word : word.now ≡ path
    pub with_exporter : CollectJob
    pub sources : List S
    pub origins : List Origin
    pub is_job : IsJobWith before.job.collect (word ∷ []) with_exporter
    pub opened : PathsAreOpened as_opener.opens as_opener.coming before.opening after.opening (word ∷ []) sources
    pub files : AreFiles (as_opener.sizes before.opening) (word ∷ []) origins
    pub gave : GiveAlone as_source.seen with_exporter sources origins alone
    pub told : AreToldTo as_writer.lines before.err after.err []
    pub same : after.job ≡ before.job

  -- each of these files was, in their order
  abbrev pub AreAlone : TableMaker S O E as_source as_opener as_writer → TableMaker S O E as_source as_opener as_writer → List (List ℕ) → List Alone → Type 0
  AreAlone before after [] [] = after ≡ before
  AreAlone before after (path ∷ paths) (alone ∷ others) = (between : TableMaker S O E as_source as_opener as_writer) × IsAlone before between path alone × AreAlone between after paths others
  AreAlone before after paths others = ⊥

  -- and by that those at these places are left out
  pub record LeavesOut (before after : TableMaker S O E as_source as_opener as_writer) (paths : List (List ℕ)) (out : List ℕ) : Type 0 where
    pub alone : List Alone
    pub are_alone : AreAlone before after paths alone
    pub left_out : AreFilesLeftOut before.job.collect.plan.now alone out

  -- of the files of a period; and a line was told for each that is left out
  pub record IsParted (before after : TableMaker S O E as_source as_opener as_writer) (begins : ℕ) (files : List (String Global)) (out : List ℕ) : Type 0 where
    pub paths : List (String Global)
    pub collected : TableMaker S O E as_source as_opener as_writer
    pub are_paths : AreFilePaths before.job.recordings.now begins files paths
    pub leaves_out : LeavesOut before collected (map string_bytes paths) out
    pub told : AreToldTo as_writer.lines collected.err after.err (left_out_lines (paths_at out (map string_bytes paths)))
    pub same_opening : after.opening ≡ collected.opening
    pub same_job : after.job ≡ collected.job

  -- ---- what is kept of files that were collected so

  -- of one
  pub record HasOwnTable (before after : TableMaker S O E as_source as_opener as_writer) (path : List ℕ) (table : Option Table) : Type 0 where
    pub alone : Alone
    pub is_alone : IsAlone before after path alone
    pub is_table : IsOwnTable before.job.collect.plan.now alone table

  -- of several
  pub record HaveOwnTables (before after : TableMaker S O E as_source as_opener as_writer) (paths : List (List ℕ)) (own : OwnTables) : Type 0 where
    pub alone : List Alone
    pub are_alone : AreAlone before after paths alone
    pub are_own : AreOwn before.job.collect.plan.now alone own

  -- of two with the same octets the later is left out, by their numbers among all but those at some places; and a line was told
  pub record IsSameLeftOut (before after : TableMaker S O E as_source as_opener as_writer) (begins : ℕ) (files : List (String Global)) (out lot : List ℕ) (first second : ℕ) : Type 0 where
    pub paths : List (String Global)
    pub are_paths : AreFilePaths before.job.recordings.now begins files paths
    pub are : lot ≡ kept_place out (length paths) second ∷ []
    pub told : AreToldTo as_writer.lines before.err after.err
        (same_line (slice_index_or (map string_bytes paths) (kept_place out (length paths) first) []) (slice_index_or (map string_bytes paths) (kept_place out (length paths) second) []))
    pub same_opening : after.opening ≡ before.opening
    pub same_job : after.job ≡ before.job

-- the table of the file of a place is kept, or that a sum of it is too large
abbrev pub IsKept : ℕ → Option Table → OwnTables → OwnTables → Type 0
IsKept place None old new = (new.tables ≡ old.tables) × (new.places ≡ old.places) × (new.others.items ≡ old.others.items ++ place ∷ [])
IsKept place (Some table) old new = (new.tables.items ≡ old.tables.items ++ table ∷ []) × (new.places.items ≡ old.places.items ++ place ∷ []) × (new.others ≡ old.others)

-- of sessions with these records some are left out: those at these places, behind these others
pub record AreOut (plan : PlanValue) (own : OwnTables) (lists : List (List DataRecord)) (out : List ℕ) : Type 0 where
  pub left : List ℕ
  pub are_left : AreLeftOut (numbers_of_plan plan) (map (by_records plan) lists) left
  pub are : out ≡ own.others.items ++ places_at own.places.items left

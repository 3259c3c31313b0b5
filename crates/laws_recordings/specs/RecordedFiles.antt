-- The files of recorded sessions, as they are collected.
use Rattle.std.specs.Prelude.{◌≡◌, ℕ, List, [], filter, map, flat_map, sum_by, Option}
use Rattle.std.specs.List.{AllZip}
use Rattle.ipfix_message.specs.declared.record.DataRecord.{DataRecord}
use Rattle.ipfix_session.specs.Given.{records_of, records_within}
use Rattle.ipfix_session.specs.Sources.{SourceView}
use Rattle.recording_files.specs.Faithful.{is_flow}
use Rattle.recording_files.specs.Files.{AreAllSeen, Contents, FilesView, all_of}
use Rattle.recording_files.specs.Sessions.{Progress, HoldsAll, IsTold}
use Rattle.recording_files.specs.declared.recorded_session.RecordedSession.{RecordedSession}
use Rattle.flow_table.specs.Bags.{IsSameBag}
use Rattle.flow_table.specs.Plans.{PlanValue}
use Rattle.flow_table.specs.Tables.{count_of}
use Rattle.flow_table.specs.declared.class.Class.TheVariants.{Options}
use Rattle.flow_table.specs.declared.table.Table.{Table}
use Rattle.flow_merge.specs.Merging.{AddsAllUp}
use Rattle.laws_merge.specs.Exports.{AreExportsOf}

-- a text was recorded in these files, up to its end or its first fault, also that of a limit of its templates: they are what the
-- files of a session hold that has this limit, or none
pub record IsRecordedIn (limit : Option ℕ) (text : List ℕ) (files : List (List ℕ)) : Type 0 where
  pub session : RecordedSession
  pub progress : Progress
  pub limit_is : progress.limit ≡ limit
  pub text_is : text ≡ progress.text
  pub after : FilesView
  pub holds : HoldsAll (IsTold session) progress after
  pub now : Contents
  pub seen : AreAllSeen progress.first after now
  pub are : files ≡ all_of now

-- the files of some sessions, or of some periods
abbrev pub all_files : List (List (List ℕ)) → List (List ℕ)
all_files groups = flat_map (λ files. files) groups

-- the same files, each as often, in whatever order; empty files, which go away, don't count
abbrev pub AreSameFiles : List (List ℕ) → List (List ℕ) → Type 0
AreSameFiles files others = (weight : List ℕ → ℕ) → weight [] ≡ 0 → sum_by weight files ≡ sum_by weight others

-- the text of a session, and what its templates may count, if they have a limit
pub record SessionText : Type 0 where
  pub limit : Option ℕ
  pub text : List ℕ

-- the records that come in it, up to its end or first fault
abbrev pub records_in_session : SessionText → List DataRecord
records_in_session s = records_within s.limit s.text

-- these records came in some sessions, and these are the files in which the sessions were recorded
pub record AreRecordedIn (came : List DataRecord) (files : List (List ℕ)) : Type 0 where
  pub sessions : List SessionText
  pub came_are : came ≡ flat_map records_in_session sessions
  pub recordings : List (List (List ℕ))
  pub each : AllZip (λ (s : SessionText). IsRecordedIn s.limit s.text) sessions recordings
  pub same : AreSameFiles (all_files recordings) files

-- the same flow records, each as often
abbrev pub SameFlows : List DataRecord → List DataRecord → Type 0
SameFlows rs qs = IsSameBag (filter is_flow rs) (filter is_flow qs)

-- of the records that came in sessions, and of the files in which these were recorded
abbrev pub ForRecordings : (List DataRecord → List (List ℕ) → Type 0) → Type 0
ForRecordings P = (came : List DataRecord) (files : List (List ℕ)) → AreRecordedIn came files → P came files

-- the records of each group of files
abbrev pub records_of_each : List (List (List ℕ)) → List (List DataRecord)
records_of_each groups = map (λ files. flat_map records_of files) groups

-- a table of each period's files was exported, sources hold these exports, and this is the merged table of them all
pub record IsMergedFrom {S : Type 0} (seen : S → SourceView) (plan : PlanValue) (periods : List (List (List ℕ))) (table : Table) : Type 0 where
  pub limit : ℕ
  pub sources : List S
  pub exports : AreExportsOf seen plan sources (records_of_each periods)
  pub adds_up : AddsAllUp seen limit plan sources table

-- a table that has as many options records as these
abbrev pub with_options : PlanValue → List DataRecord → Table → Table
with_options plan rs table = record table { tally = record table.tally { options = count_of plan rs Options } }

-- Files of sessions that have ended, and how they are finished.
use Rattle.std.specs.Prelude.{◌≡◌, ◌≢◌, ◌⊎◌, ℕ, List, Option, Some, None, IsSome, Result, Ok, Err, OnErr, IsOk, IsErr}
use Rattle.std.specs.Arc.{arc_value}
use Rattle.std.specs.String.{string_bytes}
use Rattle.std.specs.declared.io.Error.{Error}
use Rattle.recording_files.specs.Files.{FilesView}
use Rattle.recording_files.specs.Notices.{FileNotice, Finished, NotFinished}
use Rattle.recording_files.specs.declared.file_report.FileReport.{FileReport}
use Rattle.recording_files.specs.declared.file_series.NotWritten.{NotWritten}
use Rattle.recording_folder.specs.declared.ended_file.EndedFile.{EndedFile}
use Rattle.recording_folder.specs.declared.ended_file.FailedFile.{FailedFile}
use Rattle.recording_folder.specs.declared.ended_file.FolderFinisher.{FolderFinisher}
use Rattle.recording_folder.specs.declared.folder.Folder.{Folder}
use Rattle.recording_folder.specs.declared.session_files.FilesEnd.{FilesEnd}
use Rattle.recording_folder.specs.declared.filed_session.FiledSession.{FiledSession}
use Rattle.recording_folder.specs.declared.unfinished_file.UnfinishedFile.{UnfinishedFile}
use Rattle.recording_folder.specs.Paths.{IsFinalPath}
use Rattle.report_writing.specs.declared.reason.Reason.{Reason}

-- what contracts see of files on the disk: how many calls failed, and nothing of what they have
abbrev pub hidden : ℕ → FilesView
hidden failed = record { contents = None; failed = failed }

-- a file that isn't finished keeps its path, its period, its session and what was written
abbrev pub StaysInPlace : {F : Type 0} → UnfinishedFile F → UnfinishedFile F → Type 0
StaysInPlace before after = after ≡ record before { file = after.file; is_torn = after.is_torn }

-- a file that can't be finished is given back with its report
abbrev pub IsGivenBack : {F : Type 0} → EndedFile F → FailedFile F → Type 0
IsGivenBack ended back = (back.ended.report ≡ ended.report) × StaysInPlace ended.unfinished back.ended.unfinished

-- it is of the session of this name
abbrev pub IsOfSession : {F : Type 0} → UnfinishedFile F → FiledSession → Type 0
IsOfSession file session = string_bytes (arc_value file.session).name ≡ string_bytes session.name

-- it has octets, and this is a path that it can have once it is finished, in a folder of recordings: by its period and its session
abbrev pub IsFinalPathOf : {F : Type 0} → Folder → UnfinishedFile F → List ℕ → Type 0
IsFinalPathOf folder file path =
    (file.length ≢ 0) × IsFinalPath folder file.period (string_bytes (arc_value file.session).name) path

module _ {F R L : Type 0} (tells : L → FileNotice → Result (Unit {0}) Error → L → Type 0) where
  -- an empty file goes away without a word; any other is told of with its own report, by its final path in the folder
  abbrev pub IsFinished : EndedFile F → FolderFinisher R L → FolderFinisher R L → Type 0
  IsFinished ended before after =
      ((ended.unfinished.length ≡ 0) × (after.log ≡ before.log))
      ⊎ ((path : List ℕ) × IsFinalPathOf before.folder.now ended.unfinished path × (told : Result (Unit {0}) Error)
      × tells before.log (Finished path ended.report) told after.log)

  -- or nothing is told
  abbrev pub IsFinishedOrBack : EndedFile F → Result (Unit {0}) (FailedFile F) → FolderFinisher R L → FolderFinisher R L → Type 0
  IsFinishedOrBack ended (Ok x) before after = IsFinished ended before after
  IsFinishedOrBack ended (Err back) before after = after.log ≡ before.log

  -- apart from its session: where it can't be finished its path is told
  abbrev pub IsFinishedApart : EndedFile F → FolderFinisher R L → FolderFinisher R L → Type 0
  IsFinishedApart ended before after =
      IsFinished ended before after
      ⊎ ((told : Result (Unit {0}) Error) × tells before.log (NotFinished (string_bytes ended.unfinished.path)) told after.log)

module _ {F K : Type 0} (finishes : K → EndedFile F → Result (Unit {0}) (FailedFile F) → K → Type 0) where
  -- the file that isn't finished is given to what finishes files, with this report; if there is none nothing is done. Where it comes
  -- back, why it does is the reason of the call that failed last; otherwise that stays
  abbrev pub EndsFile : Option (UnfinishedFile F) → FileReport → Result (Unit {0}) NotWritten → Option Reason → Option Reason → K → K → Type 0
  EndsFile None report result failed fails before after = IsOk result × (fails ≡ failed) × (after ≡ before)
  EndsFile (Some file) report (Ok x) failed fails before after =
      finishes before (record { unfinished = file; report = report }) (Ok tt) after × (fails ≡ failed)
  EndsFile (Some file) report (Err e) failed fails before after =
      (back : FailedFile F) × finishes before (record { unfinished = file; report = report }) (Err back) after × (fails ≡ Some back.reason)

  -- so is a file that another one follows, unless an earlier one was not finished
  abbrev pub TurnsFile : Option (UnfinishedFile F) → FileReport → Result (Unit {0}) NotWritten → Option Reason → Option Reason → K → K → Type 0
  TurnsFile file report result failed fails before after =
      EndsFile file report result failed fails before after ⊎ (IsErr result × IsSome fails × (after ≡ before))

  -- so is the last one of a session, where a call failed for this reason before, or none did. That an earlier one was not finished is an
  -- error, too, and told with its own reason
  pub record EndsLast (file : Option (UnfinishedFile F)) (failed : Option Reason) (report : FileReport) (end : FilesEnd) (before : K) : Type 0 where
    pub ended : Result (Unit {0}) NotWritten
    pub fails : Option Reason
    pub after : K
    pub ends : EndsFile file report ended failed fails before after
    pub told : (end ≡ record { finished = ended; reason = fails }) ⊎ (IsErr end.finished × IsSome end.reason)

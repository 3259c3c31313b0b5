-- What was done with a file that was read.
use Rattle.std.proofs.Common.{◌≡◌, ℕ, zero, suc, List, Option, Result, Ok, Err, ap, refl, string_bytes, sym}
use Rattle.std.specs.Prelude.{IfOk}
use Rattle.std.specs.declared.alloc.Global.{Global}
use Rattle.std.specs.declared.io.Error.{Error}
use Rattle.std.specs.declared.string.String.{String}
use Rattle.recording_files.specs.Notices.{FileNotice, LookedAfter}
use Rattle.recording_files.specs.declared.file_report.FileReport.{FileReport}
use Rattle.recording_files.specs.declared.finished_files.FileEnd.{FileEnd}
use Rattle.recording_files.specs.declared.finished_files.Recovered.TheVariants.{Placed, Removed}
use Rattle.recording_names.specs.declared.unfinished_names.UnfinishedName.{UnfinishedName}
use Rattle.recording_resumption.specs.declared.earlier_session.EarlierSession.{EarlierSession}
use Rattle.recording_folder.specs.Paths.{IsUnfinishedPath}
use Rattle.recording_folder.specs.Recoveries.{IsOwn, IsSettled, IsSettledAs, TellsOutcome, WereRead}
use Rattle.recording_folder.specs.declared.file_contents.FileContents.{FileContents}
use Rattle.recording_folder.specs.declared.folder.Folder.{Folder}
use Rattle.recording_folder.specs.declared.recovery.Settled.{Settled}
use Rattle.recording_folder.specs.declared.recovery.Settled.TheVariants as settled

module _ {F : Type 0} (seen : F → Option (List ℕ)) (folder : Folder) (name : UnfinishedName) where
  pub settled_by : (contents : FileContents) (more : ℕ) → WereRead seen contents → (answer : Result Settled Error) → IfOk answer (IsSettledAs folder name contents more)
      → IfOk answer (IsSettled seen folder name)
  settled_by contents more read (Ok done) is = record { contents = contents; read = read; more = more; is = is }
  settled_by contents more read (Err error) is = tt

  pub placed : (path : String Global) (report : FileReport) (end : FileEnd) (earlier : EarlierSession) → IsSettled seen folder name (settled.Placed path report end earlier)
      → IsOwn seen folder name (string_bytes path) (Placed report end)
  placed path report end earlier s = (s.contents, s.read, sym (ap (λ (c : FileContents). c.report) s.is.0), s.is.1, s.more, s.is.2, s.is.3)

  pub removed : (path : List ℕ) (octets : ℕ) → IsUnfinishedPath folder name.period name.session.now path → IsSettled seen folder name (settled.Removed octets)
      → IsOwn seen folder name path (Removed octets)
  removed path octets there s = (s.contents, s.read, s.is.0, there)

  pub told_removed : {L : Type 0} (tells : L → FileNotice → Result (Unit {0}) Error → L → Type 0) (path : List ℕ) (octets : ℕ) (before after : L) → (octets ≡ 0 → ⊥)
      → (told : Result (Unit {0}) Error) × tells before (LookedAfter path (Removed octets)) told after → TellsOutcome seen tells folder path (Removed octets) before after
  told_removed tells path zero before after some told = absurd (some refl)
  told_removed tells path (suc octets) before after some told = told

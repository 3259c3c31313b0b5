-- What is done with the files that an earlier run left, and what is told of them.
use Rattle.std.specs.Prelude.{◌≡◌, ◌≢◌, ◌⊎◌, ℕ, zero, Bool, true, false, if◌then◌else◌, List, [], ◌∷◌, Option, Some, Result, IfOk}
use Rattle.std.specs.String.{string_bytes}
use Rattle.std.specs.declared.io.Error.{Error}
use Rattle.ipfix_session.specs.Sources.{one_more}
use Rattle.recording_files.specs.Notices.{FileNotice, LookedAfter}
use Rattle.recording_files.specs.declared.finished_files.FileEnd.{FileEnd}
use Rattle.recording_files.specs.declared.finished_files.FileEnd.TheVariants.{Whole, CutOff, Truncated}
use Rattle.recording_files.specs.declared.finished_files.Recovered.{Recovered}
use Rattle.recording_files.specs.declared.finished_files.Recovered.TheVariants.{Placed, Removed, Stayed}
use Rattle.recording_names.specs.declared.unfinished_names.UnfinishedName.{UnfinishedName}
use Rattle.recording_folder.specs.FileContents.{AreContents}
use Rattle.recording_folder.specs.Paths.{IsFinalPath, IsUnfinishedPath}
use Rattle.recording_folder.specs.declared.file_contents.FileContents.{FileContents}
use Rattle.recording_folder.specs.declared.folder.Folder.{Folder}
use Rattle.recording_folder.specs.declared.recovery.Settled.{Settled}
use Rattle.recording_folder.specs.declared.recovery.Settled.TheVariants as settled

-- whether it stays among those that aren't finished
abbrev pub is_stayed : Recovered → Bool
is_stayed (Placed report end) = false
is_stayed (Removed octets) = false
is_stayed Stayed = true

-- how a file ends after whose whole messages so many octets stood
abbrev pub EndsAfter : ℕ → FileEnd → Type 0
EndsAfter more Whole = more ≡ 0
EndsAfter more (CutOff octets) = (octets ≡ more) × (more ≢ 0)
EndsAfter more (Truncated octets) = (octets ≡ more) × (more ≢ 0)

-- a file of this name that has these contents, and so many octets after its whole messages, has got its final name, and an end;
-- it is removed, with these octets, exactly if it has no whole message
abbrev pub IsSettledAs : Folder → UnfinishedName → FileContents → ℕ → Settled → Type 0
IsSettledAs folder name contents more (settled.Placed path report end earlier) =
    (contents ≡ record { whole = contents.whole; report = report; session = earlier }) × (contents.whole ≢ 0)
    × EndsAfter more end × IsFinalPath folder name.period name.session.now (string_bytes path)
IsSettledAs folder name contents more (settled.Removed octets) = (contents.whole ≡ 0) × (octets ≡ more)

module _ {F : Type 0} (seen : F → Option (List ℕ)) where
  -- a file was read, and these are its contents, if its octets can be seen
  abbrev pub WereRead : FileContents → Type 0
  WereRead contents = (file : F) × ((text : List ℕ) → seen file ≡ Some text → AreContents text contents)

  pub record IsSettled (folder : Folder) (name : UnfinishedName) (settled : Settled) : Type 0 where
    pub contents : FileContents
    pub read : WereRead contents
    pub more : ℕ
    pub is : IsSettledAs folder name contents more settled

  module _ (folder : Folder) (name : UnfinishedName) where
    -- what was done with the file of this name, and where it is now: it has its own report if it has a whole message, and otherwise
    -- it is removed
    abbrev pub IsOwn : List ℕ → Recovered → Type 0
    IsOwn now (Placed report end) =
        (contents : FileContents) × WereRead contents × (report ≡ contents.report) × (contents.whole ≢ 0)
        × (more : ℕ) × EndsAfter more end × IsFinalPath folder name.period name.session.now now
    IsOwn now (Removed octets) =
        (contents : FileContents) × WereRead contents × (contents.whole ≡ 0) × IsUnfinishedPath folder name.period name.session.now now
    IsOwn now Stayed = IsUnfinishedPath folder name.period name.session.now now

module _ {F L : Type 0} (seen : F → Option (List ℕ)) (tells : L → FileNotice → Result (Unit {0}) Error → L → Type 0) (folder : Folder) where
  -- what became of a file is told once, but not that an empty one was removed
  abbrev pub TellsOutcome : List ℕ → Recovered → L → L → Type 0
  TellsOutcome now (Removed zero) before after = after ≡ before
  TellsOutcome now outcome before after = (told : Result (Unit {0}) Error) × tells before (LookedAfter now outcome) told after

  -- the file of this name was looked after; whether it stays
  abbrev pub IsLookedAfter : UnfinishedName → L → Bool → L → Type 0
  IsLookedAfter name before stays after =
      (now : List ℕ) × (outcome : Recovered) × IsOwn seen folder name now outcome × (stays ≡ is_stayed outcome)
      × TellsOutcome now outcome before after

  -- so was some file; or what has no name of such a file was left alone
  abbrev pub SomeIsLookedAfter : L → L → Bool → Type 0
  SomeIsLookedAfter before after stays =
      ((name : UnfinishedName) × IsLookedAfter name before stays after)
      ⊎ ((stays ≡ false) × (after ≡ before))

-- a file that was looked after: whether it stays, and the log after what was told of it
pub record Looked (L : Type 0) : Type 0 where
  pub stays : Bool
  pub log : L

-- the log after files, of which the newest comes first
abbrev pub log_after : {L : Type 0} → L → List (Looked L) → L
log_after log [] = log
log_after log (f ∷ fs) = f.log

-- how many of them stay; the count stops at the greatest number of 64 bits
abbrev pub count_staying : {L : Type 0} → List (Looked L) → ℕ
count_staying [] = 0
count_staying (f ∷ fs) = if f.stays then one_more (count_staying fs) else count_staying fs

-- one file after another, the newest first
abbrev pub AreLookedAfter : {F L : Type 0} → (F → Option (List ℕ)) → (L → FileNotice → Result (Unit {0}) Error → L → Type 0) → Folder → L → List (Looked L) → Type 0
AreLookedAfter seen tells folder log [] = Unit {0}
AreLookedAfter seen tells folder log (f ∷ fs) = SomeIsLookedAfter seen tells folder (log_after log fs) f.log f.stays × AreLookedAfter seen tells folder log fs

-- files of a folder were looked after one after another, and the answer is how many stay
abbrev pub AllAreLookedAfter : {F L : Type 0} → (F → Option (List ℕ)) → (L → FileNotice → Result (Unit {0}) Error → L → Type 0) → Folder → L → L → Result ℕ Error → Type 0
AllAreLookedAfter {L = L} seen tells folder before after result =
    (files : List (Looked L)) × AreLookedAfter seen tells folder before files × (after ≡ log_after before files) × IfOk result (λ stayed. stayed ≡ count_staying files)

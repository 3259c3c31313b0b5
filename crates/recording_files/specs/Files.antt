-- What contracts see of the files of a session, and what is done to them.
use Rattle.std.specs.Prelude.{◌≡◌, ◌⊎◌, ℕ, List, [], ◌∷◌, ◌++◌, Option, Some, None, Result, Ok, Err}
use Rattle.std.specs.Option.{option_map}
use Rattle.ipfix_session.specs.Given.{IsPrefix}
use Rattle.ipfix_session.specs.Sources.{one_more}
use Rattle.recording_files.specs.declared.file_series.NotWritten.{NotWritten}
use Rattle.recording_files.specs.declared.file_report.FileReport.{FileReport}

-- what stands in files
pub record Contents : Type 0 where
  -- the octets of the files that are finished, in order
  pub finished : List (List ℕ)
  -- what was reported of each of them
  pub reports : List FileReport
  -- and of the one that is not
  pub unfinished : List ℕ

-- all of them
abbrev pub all_of : Contents → List (List ℕ)
all_of c = c.finished ++ c.unfinished ∷ []

-- with these octets at the end of the file that isn't finished
abbrev pub grown : List ℕ → Contents → Contents
grown octets c = record { finished = c.finished; reports = c.reports; unfinished = c.unfinished ++ octets }

-- that file is finished with its report, and another has begun
abbrev pub turned : FileReport → Contents → Contents
turned report c = record { finished = c.finished ++ c.unfinished ∷ []; reports = c.reports ++ report ∷ []; unfinished = [] }

pub record FilesView : Type 0 where
  -- what stands in them, if they tell it
  pub contents : Option Contents
  -- how many calls failed
  pub failed : ℕ

-- no files but an empty one
abbrev pub no_files : FilesView
no_files = record { contents = Some (record { finished = []; reports = []; unfinished = [] }); failed = 0 }

abbrev pub with_more : FilesView → List ℕ → FilesView
with_more v octets = record v { contents = option_map (grown octets) v.contents }

abbrev pub with_next : FilesView → FileReport → FilesView
with_next v report = record v { contents = option_map (turned report) v.contents }

-- files tell what stands in them: they had this at first, and have that now
pub record AreSeen (first after : FilesView) (start now : Contents) : Type 0 where
  pub at_first : first.contents ≡ Some start
  pub at_last : after.contents ≡ Some now

-- and these are all that were ever finished: at first there was none
pub record AreAllSeen (first after : FilesView) (now : Contents) : Type 0 where
  pub start : Contents
  pub none : start.finished ≡ []
  pub seen : AreSeen first after start now

-- one more call failed
abbrev pub failing : FilesView → FilesView
failing v = record v { failed = one_more v.failed }

-- appending octets: where it fails the first of them may stand, and else nothing has changed
abbrev pub Appends : Result (Unit {0}) NotWritten → List ℕ → FilesView → FilesView → Type 0
Appends (Ok x) octets before after = after ≡ with_more before octets
Appends (Err e) octets before after = (first : List ℕ) × IsPrefix first octets × (after ≡ failing (with_more before first))

-- turning to the next file, with the report of the one that is finished: where it fails that may have been done or not
abbrev pub Turns : Result (Unit {0}) NotWritten → FileReport → FilesView → FilesView → Type 0
Turns (Ok x) report before after = after ≡ with_next before report
Turns (Err e) report before after = (after ≡ failing before) ⊎ (after ≡ failing (with_next before report))

-- no octet stands in the file that isn't finished
abbrev pub IsEmpty : Option Contents → Type 0
IsEmpty None = Unit {0}
IsEmpty (Some c) = c.unfinished ≡ []

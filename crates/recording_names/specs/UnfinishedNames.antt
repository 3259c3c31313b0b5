-- The names of files that aren't finished.
use Rattle.std.specs.Prelude.{ℕ, ◌≡◌, ◌<◌, List, decimal}
use Rattle.recording_names.specs.PeriodNames.{calendar_end}
use Rattle.recording_names.specs.SessionNames.{hyphened}

-- the beginning of its period, in seconds since 1970, and its session's name
abbrev pub name_of_unfinished : ℕ → List ℕ → List ℕ
name_of_unfinished begins session = hyphened (decimal begins) session

-- the name of an unfinished file of some period and session
pub record IsUnfinishedName (name : List ℕ) : Type 0 where
  pub period : ℕ
  pub session : List ℕ
  pub in_calendar : period < calendar_end
  pub named : name ≡ name_of_unfinished period session

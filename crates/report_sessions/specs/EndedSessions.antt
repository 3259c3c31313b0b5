-- Sessions that ended, and why their sources could not be read on.
use Rattle.std.specs.Prelude.{◌≡◌, ℕ, ◌-◌, List, All, map, slice_get, IfSome, Option, Some, option_and_then}
use Rattle.std.specs.List.{enumerate_from}
use Rattle.std.specs.declared.io.ErrorKind.{ErrorKind}
use Rattle.ipfix_session.specs.declared.report.FullReport.{FullReport}

-- the report of a session that ended, and what the system answered to the read that failed, if one did and it is known
pub record EndedSession : Type 0 where
  pub full : FullReport
  pub failure : Option ErrorKind

-- what is said of a failure is what was answered, or nothing: a source need not say what it was answered
abbrev pub IsSaidOf : Option ErrorKind → Option ErrorKind → Type 0
IsSaidOf answered said = IfSome said (λ kind. answered ≡ Some kind)

-- by the failures of sources, of which each has the place of its session, counted from 1
module _ {S : Type 0} (failure : S → Option ErrorKind) (sources : List S) where
  abbrev pub failure_of : ℕ → Option ErrorKind
  failure_of session = option_and_then failure (slice_get sources (session - 1))

  -- sessions with these reports, each with the failure of its own source
  pub record AreEnded (fulls : List FullReport) (ended : List EndedSession) : Type 0 where
    pub reports : map (λ (e : EndedSession). e.full) ended ≡ fulls
    pub failures : All (λ (x : ℕ × EndedSession). IsSaidOf (failure_of x.0) x.1.failure) (enumerate_from 1 ended)

  -- the lines of such sessions were told
  pub record TellsEnded (fulls : List FullReport) (lines_of : List EndedSession → List ℕ) (AreTold : List ℕ → Type 0) : Type 0 where
    pub ended : List EndedSession
    pub are_ended : AreEnded fulls ended
    pub told : AreTold (lines_of ended)

-- The lines about a period, and how the command ends by it.
use Rattle.std.specs.Prelude.{ℕ, Bool, List, [], ◌++◌, Option, None, Some, Result, Ok, Err, codes, nat_le, if◌then◌else◌, string_bytes}
use Rattle.std.specs.Borrow.{Bor}
use Rattle.report_writing.specs.FaultLines.{not_had_line}
use Rattle.report_writing.specs.Reasons.{words_of}
use Rattle.report_writing.specs.Statuses.{number_of}
use Rattle.report_writing.specs.declared.reason.Reason.{Reason}
use Rattle.report_writing.specs.declared.reason.Reason.TheVariants.{NotValid, OutOfMemory}
use Rattle.report_writing.specs.declared.status.Status.{Status}
use Rattle.report_writing.specs.declared.status.Status.TheVariants.{Well, SessionFault, NotOpened, Failed}
use Rattle.period_tables.specs.declared.outcome.Outcome.{Outcome}
use Rattle.period_tables.specs.declared.outcome.Outcome.TheVariants.{NotOver, HeldUp, UpToDate, FileGone, Made, NotRead, NotMade, NotPut}

-- a line about a period, with the name of what it is about, or why
unfoldable pub period_line : List ℕ → List ℕ → List ℕ → List ℕ
period_line period what name = codes "collectd: tables: " ++ (period ++ (codes ": " ++ (what ++ (codes ": " ++ (name ++ codes "\n")))))

-- a line about the state of a period
unfoldable pub state_line : List ℕ → List ℕ → List ℕ
state_line period state = codes "collectd: tables: " ++ (period ++ (codes ": " ++ (state ++ codes "\n")))

-- the line with the path of a table
unfoldable pub path_line : List ℕ → List ℕ
path_line path = path ++ codes "\n"

-- why a period can't be read; if anything isn't valid, it is the receipt
abbrev pub unread_words : Reason → List ℕ
unread_words NotValid = codes "no receipt of this plan"
unread_words reason = words_of reason

-- what lines call a table of the period of this name: with the name of its plan before it, if there are several
abbrev pub label_text : Option (Bor (List ℕ)) → List ℕ → List ℕ
label_text None period = period
label_text (Some plan) period = plan.now ++ (codes "/" ++ period)

-- the line about what became of a table of a period, if there is one; only some rounds write what the period waits for
abbrev pub outcome_lines : Bool → List ℕ → List ℕ → Outcome → List ℕ
outcome_lines tells period table NotOver = []
outcome_lines tells period table (HeldUp name) = if tells then period_line period (codes "not finished") (string_bytes name) else []
outcome_lines tells period table UpToDate = []
outcome_lines tells period table (FileGone path) = period_line table (codes "gone") (string_bytes path)
outcome_lines tells period table (Made fault) = if fault then state_line table (codes "made with a fault") else []
outcome_lines tells period table (NotRead reason) = period_line table (codes "not read") (unread_words reason)
outcome_lines tells period table (NotMade status) = state_line table (codes "not made")
outcome_lines tells period table (NotPut reason) = period_line table (codes "not written") (words_of reason)

-- the line with the path of a table that was made
abbrev pub outcome_paths : List ℕ → Outcome → List ℕ
outcome_paths path (Made fault) = path_line path
outcome_paths path outcome = []

-- that the folder of recordings of this path can't be listed
abbrev pub unlisted_lines : Bool → List ℕ → Reason → List ℕ
unlisted_lines tells from reason = if tells then not_had_line (codes "folder") (from ++ (codes ": " ++ words_of reason)) else []

-- that the recordings of a period were removed, or why not
abbrev pub removal_line : List ℕ → Result (Unit {0}) Reason → List ℕ
removal_line period (Ok done) = state_line period (codes "removed")
removal_line period (Err reason) = period_line period (codes "not removed") (words_of reason)

abbrev pub removal_status : Result (Unit {0}) Reason → Status
removal_status (Ok done) = Well
removal_status (Err reason) = SessionFault

-- memory ran out, or the system refused it
abbrev pub reason_status : Reason → Status
reason_status OutOfMemory = Failed
reason_status reason = NotOpened

-- how the command ends after this became of a table
abbrev pub outcome_status : Outcome → Status
outcome_status NotOver = Well
outcome_status (HeldUp name) = SessionFault
outcome_status UpToDate = Well
outcome_status (FileGone path) = SessionFault
outcome_status (Made fault) = if fault then SessionFault else Well
outcome_status (NotRead reason) = reason_status reason
outcome_status (NotMade status) = status
outcome_status (NotPut reason) = Failed

-- the status with the greater number
abbrev pub worse : Status → Status → Status
worse one other = if nat_le (number_of one) (number_of other) then other else one

-- The lines that tell what was opened and what is waited for, and why something was not had.
use Rattle.std.specs.Prelude.{ℕ, List, [], ◌++◌, codes, decimal, if◌then◌else◌}
use Rattle.report_writing.specs.Origins.{session_start}
use Rattle.report_writing.specs.Reasons.{words_of}
use Rattle.report_writing.specs.FaultLines.{not_had_line, not_had_with}
use Rattle.report_writing.specs.declared.origin.Origin.{Origin}
use Rattle.report_writing.specs.declared.origin.Origin.TheVariants.{File, Peer, Unknown}
use Rattle.report_writing.specs.declared.reason.Reason.{Reason}
use Rattle.report_writing.specs.declared.verbosity.Verbosity.{Verbosity}

-- a file is opened, and a connection is accepted
abbrev pub opened_text : Origin → List ℕ
opened_text (File name size) = codes ": opened\n"
opened_text (Peer address) = codes ": accepted\n"
opened_text Unknown = codes ": opened\n"

abbrev pub opened_line : ℕ → Origin → List ℕ
opened_line session origin = session_start session origin ++ opened_text origin

-- for how many connections there is a wait at an address
unfoldable pub listening_line : List ℕ → ℕ → List ℕ
listening_line address connections = codes "collectd: listening: " ++ (address ++ (codes ": connections " ++ (decimal connections ++ codes "\n")))

-- the line of what was not had, and the reason at its end
abbrev pub because_line : List ℕ → List ℕ → Reason → List ℕ
because_line what name reason = not_had_with what name (words_of reason)

-- what is told only if it is asked for
abbrev pub if_verbose : Verbosity → List ℕ → List ℕ
if_verbose verbosity line = if verbosity.verbose then line else []

abbrev pub not_had_lines : Verbosity → List ℕ → List ℕ → Reason → List ℕ
not_had_lines verbosity what name reason = if verbosity.verbose then because_line what name reason else not_had_line what name

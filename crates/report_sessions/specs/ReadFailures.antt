-- Why a session could not be read on, and the lines that say so.
use Rattle.std.specs.Prelude.{ℕ, List, [], ◌++◌, codes, decimal, Option, Some, None, option_map}
use Rattle.std.specs.declared.io.ErrorKind.{ErrorKind}
use Rattle.ipfix_session.specs.Faults.{number_of, name_of}
use Rattle.ipfix_session.specs.declared.fault.SessionFault.{SessionFault}
use Rattle.ipfix_session.specs.declared.fault.SessionFault.TheVariants.{ReadFailed}
use Rattle.report_writing.specs.OpeningLines.{because_line, if_verbose}
use Rattle.report_writing.specs.Origins.{session_start}
use Rattle.report_writing.specs.Reasons.{reason_of, words_of}
use Rattle.report_writing.specs.declared.origin.Origin.{Origin}
use Rattle.report_writing.specs.declared.reason.Reason.{Reason}
use Rattle.report_writing.specs.declared.verbosity.Verbosity.{Verbosity}

-- the reason that a session ended so, if a read failed and what the system answered to it is known
abbrev pub read_reason : Option SessionFault → Option ErrorKind → Option Reason
read_reason (Some ReadFailed) failure = option_map reason_of failure
read_reason fault failure = None

-- a fault, and why the system made it one
unfoldable pub reason_text : ℕ → List ℕ → List ℕ → List ℕ
reason_text number name words = codes ": fault " ++ (decimal number ++ (codes " " ++ (name ++ (codes ": " ++ (words ++ codes "\n")))))

-- why a session could not be read on
abbrev pub read_failed_line : ℕ → Origin → Reason → List ℕ
read_failed_line session origin reason =
    session_start session origin ++ reason_text (number_of ReadFailed) (name_of ReadFailed) (words_of reason)

-- if that is known
abbrev pub read_failed_lines : ℕ → Origin → Option Reason → List ℕ
read_failed_lines session origin (Some reason) = read_failed_line session origin reason
read_failed_lines session origin None = []

-- why what has this name could not be read on, if that is known and asked for
abbrev pub unread_lines : Verbosity → List ℕ → Option Reason → List ℕ
unread_lines verbosity name (Some reason) = if_verbose verbosity (because_line (codes "read") name reason)
unread_lines verbosity name None = []

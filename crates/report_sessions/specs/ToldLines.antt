-- The lines of sessions in full: those that always stand, and those that are added to them.
use Rattle.std.specs.Prelude.{ℕ, ◌-◌, ◌==◌, ◌&&◌, Bool, List, [], ◌++◌, codes, decimal, if◌then◌else◌, slice_get, unwrap_or, Option, Some, None}
use Rattle.std.specs.List.{flat_map, enumerate_from}
use Rattle.std.specs.declared.io.ErrorKind.{ErrorKind}
use Rattle.element_registry.specs.Registries.{Known}
use Rattle.ipfix_message.specs.declared.passed_over.PassedOver.{PassedOver}
use Rattle.ipfix_session.specs.declared.fault.SessionFault.{SessionFault}
use Rattle.ipfix_session.specs.declared.report.DomainBalance.{DomainBalance}
use Rattle.ipfix_session.specs.declared.report.FullReport.{FullReport}
use Rattle.ipfix_session.specs.declared.report.MessagePlace.{MessagePlace}
use Rattle.ipfix_session.specs.Faults.{number_of, name_of}
use Rattle.report_sessions.specs.EndedSessions.{EndedSession}
use Rattle.report_sessions.specs.ReadFailures.{read_failed_lines, read_reason}
use Rattle.report_sessions.specs.ReportLines.{session_lines}
use Rattle.report_writing.specs.Origins.{octets_from, session_start, tells_balances}
use Rattle.report_sessions.specs.UnnamedElements.{unnamed_told}
use Rattle.report_writing.specs.declared.origin.Origin.{Origin}
use Rattle.report_writing.specs.declared.origin.Origin.TheVariants.{Unknown}
use Rattle.report_writing.specs.declared.verbosity.Verbosity.{Verbosity}

-- ---- what wasn't counted

-- nothing was passed over, and nothing is unaccounted for
abbrev pub is_all_counted : DomainBalance → Bool
is_all_counted b = (b.passed_over.unknown_sets == 0) && ((b.passed_over.skipped_sets == 0) && ((b.passed_over.ignored_withdrawals == 0) && (b.unaccounted == 0)))

unfoldable pub sets_text : ℕ → PassedOver → List ℕ
sets_text domain p = codes ": domain " ++ (decimal domain ++ (codes ": unknown_sets " ++ (decimal p.unknown_sets ++ (codes " skipped_sets " ++ decimal p.skipped_sets))))

unfoldable pub records_text : ℕ → ℕ → List ℕ
records_text ignored_withdrawals unaccounted = codes " ignored_withdrawals " ++ (decimal ignored_withdrawals ++ (codes " unaccounted " ++ (decimal unaccounted ++ codes "\n")))

-- the sets and withdrawals of a domain that gave nothing (RFC 7011, sections 3.3.2, 8.1 and 9), and the data records by
-- which its sequence number went on after an unknown set
abbrev pub balance_text : DomainBalance → List ℕ
balance_text b = sets_text b.domain b.passed_over ++ records_text b.passed_over.ignored_withdrawals b.unaccounted

-- a domain has a line if one of these numbers isn't 0
abbrev pub balance_lines : ℕ → Origin → DomainBalance → List ℕ
balance_lines session origin b = if is_all_counted b then [] else session_start session origin ++ balance_text b

-- the domains in order
abbrev pub uncounted_lines : ℕ → Origin → List DomainBalance → List ℕ
uncounted_lines session origin balances = flat_map (balance_lines session origin) balances

-- the same, if either option asks for them
abbrev pub balances_told : Verbosity → ℕ → Origin → List DomainBalance → List ℕ
balances_told verbosity session origin balances = if tells_balances verbosity then uncounted_lines session origin balances else []

-- ---- how it ended

-- where the first message begins that doesn't count
unfoldable pub place_text : ℕ → List ℕ → MessagePlace → List ℕ
place_text number name place =
    codes ": fault " ++ (decimal number ++ (codes " " ++ (name ++ (codes ": message " ++ (decimal place.message ++ (codes " octet " ++ decimal place.octet))))))

unfoldable pub number_left : ℕ → List ℕ
number_left octets = codes " unread " ++ (decimal octets ++ codes "\n")

-- how many octets there are from there on, if that is known
abbrev pub left_text : Option ℕ → List ℕ
left_text None = codes "\n"
left_text (Some octets) = number_left octets

-- the fault, its place, and what is left
abbrev pub fault_place_lines : ℕ → Origin → Option SessionFault → MessagePlace → List ℕ
fault_place_lines session origin None place = []
fault_place_lines session origin (Some fault) place =
    session_start session origin ++ (place_text (number_of fault) (name_of fault) place ++ left_text (octets_from origin place.octet))

-- the messages that count, their octets, and the data records that were taken
unfoldable pub ended_text : ℕ → ℕ → ℕ → List ℕ
ended_text messages octets records =
    codes ": ended: messages " ++ (decimal messages ++ (codes " octets " ++ (decimal octets ++ (codes " records " ++ (decimal records ++ codes "\n")))))

abbrev pub ended_line : ℕ → Origin → FullReport → List ℕ
ended_line session origin full = session_start session origin ++ ended_text full.report.messages full.stopped_at.octet full.report.delivered

-- the fault and its place, why the source could not be read on, and what counts
abbrev pub end_lines : ℕ → Origin → Option ErrorKind → FullReport → List ℕ
end_lines session origin failure full =
    fault_place_lines session origin full.report.fault full.stopped_at
    ++ (read_failed_lines session origin (read_reason full.report.fault failure) ++ ended_line session origin full)

-- these, if verbose lines are asked for
abbrev pub end_told : Verbosity → ℕ → Origin → Option ErrorKind → FullReport → List ℕ
end_told verbosity session origin failure full = if verbosity.verbose then end_lines session origin failure full else []

-- ---- a session, and all of them

-- a session's lines that always stand, and then those that are added
abbrev pub added_lines : Verbosity → List Known → ℕ → Origin → Option ErrorKind → FullReport → List ℕ
added_lines verbosity known session origin failure full =
    balances_told verbosity session origin full.balances.items ++ (unnamed_told verbosity known session origin full ++ end_told verbosity session origin failure full)

abbrev pub told_session : Verbosity → List Known → ℕ → Origin → Option ErrorKind → FullReport → List ℕ
told_session verbosity known session origin failure full =
    session_lines session full.report ++ added_lines verbosity known session origin failure full

-- the origin of a session, counted from 1; unknown, where none stands
abbrev pub origin_of : List Origin → ℕ → Origin
origin_of origins session = unwrap_or (slice_get origins (session - 1)) Unknown

-- the sessions in order, counted from 1, each with the origin that has its place, under files of elements
abbrev pub told_lines : Verbosity → List Known → List Origin → List EndedSession → List ℕ
told_lines verbosity known origins ended =
    flat_map (λ x. told_session verbosity known x.0 (origin_of origins x.0) x.1.failure x.1.full) (enumerate_from 1 ended)

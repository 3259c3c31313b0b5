-- The lines of what is told of the times of sessions.
use Rattle.std.specs.Prelude.{ℕ, List, []}
use Rattle.std.specs.List.{flat_map, enumerate_from}
use Rattle.flow_times.specs.declared.notes.TimeNoting.{TimeNoting}
use Rattle.flow_times.specs.declared.notes.TimeNoting.TheVariants.{Nothing, Untimed, Starts}
use Rattle.flow_times.specs.declared.notes.TimesReport.{TimesReport}
use Rattle.report_sessions.specs.ToldLines.{origin_of}
use Rattle.report_times.specs.StartsLines.{session_starts}
use Rattle.report_times.specs.UntimedLines.{session_untimed}
use Rattle.report_writing.specs.declared.origin.Origin.{Origin}

-- of a session, what was noted
abbrev pub session_times : TimeNoting → ℕ → Origin → TimesReport → List ℕ
session_times Nothing session origin report = []
session_times Untimed session origin report = session_untimed session origin report.untimed
session_times Starts session origin report = session_starts session origin report.starts

-- with the origin that has its place
abbrev pub times_at : TimeNoting → List Origin → ℕ → TimesReport → List ℕ
times_at noting origins session report = session_times noting session (origin_of origins session) report

-- the sessions in order, counted from 1
abbrev pub times_lines : TimeNoting → List Origin → List TimesReport → List ℕ
times_lines noting origins sessions = flat_map (λ x. times_at noting origins x.0 x.1) (enumerate_from 1 sessions)

-- if anything was noted
abbrev pub times_told : TimeNoting → List Origin → List TimesReport → List ℕ
times_told Nothing origins sessions = []
times_told Untimed origins sessions = times_lines Untimed origins sessions
times_told Starts origins sessions = times_lines Starts origins sessions

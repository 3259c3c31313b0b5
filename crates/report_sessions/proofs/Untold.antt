-- Without options nothing is added to the lines of sessions, nor is it said why something could not be read on.
use Rattle.std.proofs.Common.{◌≡◌, ℕ, ◌+◌, List, [], ◌∷◌, ◌++◌, map, refl, ap, ◌∙◌, append-nil, false, Option, Some, None}
use Rattle.std.specs.List.{flat_map, enumerate_from}
use Rattle.std.specs.declared.io.ErrorKind.{ErrorKind}
use Rattle.element_registry.specs.Registries.{Known}
use Rattle.ipfix_session.specs.declared.report.FullReport.{FullReport}
use Rattle.report_sessions.specs.EndedSessions.{EndedSession}
use Rattle.report_sessions.specs.ReadFailures.{unread_lines}
use Rattle.report_sessions.specs.ReportLines.{session_lines, report_lines}
use Rattle.report_sessions.specs.ToldLines.{added_lines, origin_of, told_lines, told_session}
use Rattle.report_writing.specs.declared.origin.Origin.{Origin}
use Rattle.report_writing.specs.declared.reason.Reason.{Reason}
use Rattle.report_writing.specs.declared.verbosity.Verbosity.{Verbosity}

module _ (verbosity : Verbosity) (verbose : verbosity.verbose ≡ false) (strict : verbosity.strict ≡ false) (known : List Known) where
  nothing_added : (session : ℕ) (origin : Origin) (failure : Option ErrorKind) (full : FullReport) → added_lines verbosity known session origin failure full ≡ []
  nothing_added session origin failure full = rw (verbose, strict) refl

  -- of one session
  pub session_plain : (session : ℕ) (origin : Origin) (failure : Option ErrorKind) (full : FullReport) → told_session verbosity known session origin failure full ≡ session_lines session full.report
  session_plain session origin failure full = ap (λ (t : List ℕ). session_lines session full.report ++ t) (nothing_added session origin failure full) ∙ append-nil _

  module _ (origins : List Origin) where
    told_from : (n : ℕ) (ended : List EndedSession)
        → flat_map (λ (x : ℕ × EndedSession). told_session verbosity known x.0 (origin_of origins x.0) x.1.failure x.1.full) (enumerate_from n ended)
        ≡ flat_map (λ x. session_lines x.0 x.1) (enumerate_from n (map (λ (full : FullReport). full.report) (map (λ (e : EndedSession). e.full) ended)))
    told_from n [] = refl
    told_from n (e ∷ ended) =
        ap (λ (t : List ℕ). t ++ flat_map (λ (x : ℕ × EndedSession). told_session verbosity known x.0 (origin_of origins x.0) x.1.failure x.1.full) (enumerate_from (n + 1) ended))
        (session_plain n (origin_of origins n) e.failure e.full)
        ∙ ap (λ (t : List ℕ). session_lines n e.full.report ++ t) (told_from (n + 1) ended)

    -- of all, which have these reports
    pub told_plain : (ended : List EndedSession) (fulls : List FullReport) → map (λ (e : EndedSession). e.full) ended ≡ fulls → told_lines verbosity known origins ended ≡ report_lines (map (λ full. full.report) fulls)
    told_plain ended fulls are = told_from 1 ended ∙ ap (λ (l : List FullReport). report_lines (map (λ full. full.report) l)) are

pub unread_plain : (verbosity : Verbosity) → verbosity.verbose ≡ false → (name : List ℕ) (reason : Option Reason) → unread_lines verbosity name reason ≡ []
unread_plain verbosity plain name None = refl
unread_plain verbosity plain name (Some reason) = rw plain refl

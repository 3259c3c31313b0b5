-- Sessions that ended, told one after another.
use Rattle.std.proofs.Common.{◌≡◌, ℕ, ◌+◌, ◌<◌, List, [], ◌∷◌, ◌++◌, length, map, take, get_or, All, Option, None, refl, sym, ap, ◌∙◌, subst, arith, length-take-le}
use Rattle.std.specs.List.{enumerate_from}
use Rattle.std.specs.declared.io.ErrorKind.{ErrorKind}
use Rattle.std.proofs.lemmas.List.{length-map, map-append, take_more}
use Rattle.std.proofs.lemmas.List.Elements.{All-cons, All-nil, All-push}
use Rattle.ipfix_session.specs.declared.report.FullReport.{FullReport}
use Rattle.report_writing.proofs.Numbering.{enumerate_from-last}
use Rattle.report_sessions.specs.EndedSessions.{failure_of, AreEnded, EndedSession, IsSaidOf}

-- a session of which nothing is said why its source could not be read on
abbrev pub without_failure : FullReport → EndedSession
without_failure full = record { full = full; failure = None }

module _ {S : Type 0} (failure : S → Option ErrorKind) (sources : List S) where
  abbrev IsOwn : ℕ × EndedSession → Type 0
  IsOwn x = IsSaidOf (failure_of failure sources x.0) x.1.failure

  -- none yet
  pub none_ended : AreEnded failure sources [] []
  none_ended = record { reports = refl; failures = All-nil IsOwn }

  pub ended_count : (fulls : List FullReport) (i : ℕ) (ended : List EndedSession) → i < length fulls → AreEnded failure sources (take i fulls) ended → length ended ≡ i
  ended_count fulls i ended less are = sym (length-map ended (λ (e : EndedSession). e.full)) ∙ ap length are.reports ∙ length-take-le i fulls (omega (arith, less))

  -- one more
  pub ended_more : (fulls : List FullReport) (i : ℕ) (full : FullReport) (ended : List EndedSession) (said : Option ErrorKind) → i < length fulls → full ≡ get_or fulls i full
      → AreEnded failure sources (take i fulls) ended → IsSaidOf (failure_of failure sources (i + 1)) said
      → AreEnded failure sources (take (i + 1) fulls) (ended ++ record { full = full; failure = said } ∷ [])
  ended_more fulls i full ended said less is before own =
      let new : EndedSession = record { full = full; failure = said } in
      let number : i + 1 ≡ 1 + length ended = omega (arith, ended_count fulls i ended less before) in
      record {
        reports = map-append (λ (e : EndedSession). e.full) ended (new ∷ []) ∙ ap (λ (l : List FullReport). l ++ full ∷ []) before.reports ∙ sym (take_more fulls i full less ∙ ap (λ x. take i fulls ++ x ∷ []) (sym is));
        failures = subst (All IsOwn) (sym (enumerate_from-last 1 ended new)) (All-push IsOwn (enumerate_from 1 ended) (1 + length ended, new) before.failures (subst (λ (n : ℕ). IsSaidOf (failure_of failure sources n) said) number own));
      }

  -- without what their sources answered
  unsaid_reports : (fulls : List FullReport) → map (λ (e : EndedSession). e.full) (map without_failure fulls) ≡ fulls
  unsaid_reports [] = refl
  unsaid_reports (full ∷ fulls) = ap (λ (l : List FullReport). full ∷ l) (unsaid_reports fulls)

  none_said : (n : ℕ) (fulls : List FullReport) → All IsOwn (enumerate_from n (map without_failure fulls))
  none_said n [] = All-nil IsOwn
  none_said n (full ∷ fulls) = All-cons IsOwn (n, without_failure full) (enumerate_from (n + 1) (map without_failure fulls)) tt (none_said (n + 1) fulls)

  pub unsaid : (fulls : List FullReport) → AreEnded failure sources fulls (map without_failure fulls)
  unsaid fulls = record { reports = unsaid_reports fulls; failures = none_said 1 fulls }

-- A plan that has no name.
use Rattle.std.proofs.Common.{◌≡◌, ℕ, ◌<◌, List, get_or, length, Result, Ok, Err, sym, subst, ◌∙◌}
use Rattle.std.specs.Prelude.{Any, IfErr}
use Rattle.std.specs.Result.{IsErrAnd}
use Rattle.std.specs.Borrow.{Bor}
use Rattle.report_writing.specs.Lines.{LinesView}
use Rattle.report_writing.specs.declared.status.Status.{Status}
use Rattle.std.proofs.lemmas.List.{get_or_default}
use Rattle.command_tables.specs.Opening.{IsNameless}

-- that of one of these paths, which was told after nothing else
pub nameless_at : (paths : List (Bor (List ℕ))) (i : ℕ) (d path : Bor (List ℕ)) → i < length paths → get_or paths i d ≡ path
    → {E : Type 0} (lines : E → LinesView) (start before after : E) (status : Status) → before ≡ start
    → IsNameless lines before after path.now status → Any (λ (p : Bor (List ℕ)). IsNameless lines start after p.now status) paths
nameless_at paths i d path within is lines start before after status silent nameless =
    (i, path, within, get_or_default paths i path d within ∙ is, subst (λ err. IsNameless lines err after path.now status) silent nameless)

-- an error that is passed on
pub passed_on : {T E : Type 0} (answer : Result T E) (passed : E) (P : E → Type 0) → IsErrAnd answer (λ e. e ≡ passed) → P passed → IfErr answer P
passed_on (Ok x) passed P is p = tt
passed_on (Err e) passed P is p = subst P (sym is) p

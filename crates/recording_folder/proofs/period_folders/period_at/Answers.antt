use Rattle.std.proofs.Common.{ℕ, List, sym, ◌∙◌, subst}
use Rattle.std.proofs.lemmas.Slice.Eq.{bytes_eq-Decides}
use Rattle.recording_names.specs.PeriodNames.{IsPeriodName}
use Rattle.recording_folder.proofs.period_folders.period_at.Goals as goal

pub returns-then-eq : goal.returns-then-eq
returns-then-eq c =
    let equal = (bytes_eq-Decides c.as_str.result.now c.as_str-2.result.now).0 (sym c.eq.ensures ∙ c.if-eq.true) in
    subst (λ (text : List ℕ). IsPeriodName c.in-Some.begins text) (sym c.as_str.ensures.value ∙ equal ∙ c.as_str-2.ensures.value ∙ c.in_ok-given.ensures.ok) c.in_ok-name.ensures

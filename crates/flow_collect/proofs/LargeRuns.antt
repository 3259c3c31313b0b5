-- Runs in which an estimate is too large.
use Rattle.std.proofs.Common.{◌≡◌, true, false, List, [], ◌∷◌, ap, ◌∙◌, inl, inr}
use Rattle.std.specs.List.{list_any}
use Rattle.std.proofs.lemmas.Bool.{false≢true}
use Rattle.ipfix_message.specs.declared.record.DataRecord.{DataRecord}
use Rattle.ipfix_session.specs.Sources.{SourceView}
use Rattle.flow_table.specs.Plans.{PlanValue}
use Rattle.flow_collect.specs.Contexts.{counted_in, known_in, records_in_context}
use Rattle.flow_collect.specs.InFull.{IsGivenInContext}
use Rattle.flow_collect.specs.Places.{Each4}
use Rattle.flow_collect.specs.Rated.{have_large, is_large, tell_large}
use Rattle.flow_collect.specs.Refusals.{AreTooLargeInContext}
use Rattle.flow_collect.specs.declared.collected.FilteredReport.{FilteredReport}
use Rattle.flow_collect.specs.declared.session_context.InContext.{InContext}
use Rattle.flow_collect.proofs.Contexts.{first_in_context}
use Rattle.flow_collect.proofs.Large.{more_large, or_cases, or_left, or_right, told_large}

module _ {S : Type 0} (seen : S → SourceView) where
  one_large : (s : InContext S) (a : S) (f : FilteredReport) (q : List DataRecord) → IsGivenInContext seen s a f q → f.sampling.is_too_large ≡ true → list_any (is_large s.context.estimates) q ≡ true
  one_large s a f q g is =
      ap (list_any (is_large s.context.estimates)) g.records_are ∙ told_large s.context.options.sampling s.context.estimates (known_in s g.own) (counted_in s g.own) f.sampling g.sampling_is is

  pub own_large : (befores : List (InContext S)) (afters : List S) (fulls : List FilteredReport) (qs : List (List DataRecord)) → Each4 (IsGivenInContext seen) befores afters fulls qs → tell_large fulls ≡ true → have_large befores qs ≡ true
  own_large [] [] [] [] e is = absurd (false≢true is)
  own_large (s ∷ befores) (a ∷ afters) (f ∷ fulls) (q ∷ qs) e is =
      let p = is_large s.context.estimates in
      elim (or_cases f.sampling.is_too_large (tell_large fulls) is) as (λ _. have_large (s ∷ befores) (q ∷ qs) ≡ true) [
        | inl here ↦ or_left (list_any p q) (have_large befores qs) (one_large s a f q e.0 here)
        | inr there ↦ or_right (list_any p q) (have_large befores qs) (own_large befores afters fulls qs e.1 there)
      ]
  own_large befores afters fulls qs e is = absurd e

  -- if a session tells that an estimate is too large, one is among the records of the whole texts
  pub large_due : (plan : PlanValue) (befores : List (InContext S)) (afters : List S) (fulls : List FilteredReport) (qs : List (List DataRecord)) → Each4 (IsGivenInContext seen) befores afters fulls qs → tell_large fulls ≡ true
      → AreTooLargeInContext seen plan befores
  large_due plan befores afters fulls qs given is = λ texts t.
      inr (more_large befores qs (records_in_context befores texts) (first_in_context seen befores afters fulls qs texts given t) (own_large befores afters fulls qs given is))

use Rattle.std.proofs.Common.{ℕ, List, subst, inl, inr}
use Rattle.input_sources.specs.PlansTold.{IsLoaded, table_of}
use Rattle.report_writing.proofs.LinesTold.{is_told}
use Rattle.input_sources.proofs.plan.load_plan.Goals as goal

pub returns-in-Err-clause-told : goal.returns-in-Err-clause-told
returns-in-Err-clause-told g c =
    inl (c.in-Err.reason, c.in-Err.ensures.refused, is_told _ _ _ c.write_not_had_because.result _ c.write_not_had_because.ensures.told c.write_not_had_because.ensures.failed)

pub returns-clause-text : goal.returns-clause-text
returns-clause-text g c = λ loaded is. (
  c.in-Ok.octets.items,
  c.in-Ok.ensures.text,
  subst (λ (octets : List ℕ). IsLoaded c.args.elements octets loaded.maps (table_of loaded)) c.deref.ensures.value (c.load_plan_text.ensures.text loaded is),
)

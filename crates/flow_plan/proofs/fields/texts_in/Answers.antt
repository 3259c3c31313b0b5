use Rattle.std.proofs.Common.{List, Some, map, ap, ◌∙◌, sym, option_and_then}
use Rattle.std.proofs.lemmas.List.{map-append}
use denote.Bor.{Bor}
use Rattle.toml.specs.Data.{as_str}
use Rattle.toml.specs.View.{items_view, view}
use Rattle.toml.specs.declared.value.Value.{Value}
use Rattle.flow_plan.specs.PlanTexts.{texts_in}
use Rattle.flow_plan.proofs.Listed.{texts_in-more, texts_in-none}
use Rattle.flow_plan.proofs.fields.texts_in.Goals as goal

pub returns-in-None : goal.returns-in-None
returns-in-None c =
    let none = texts_in-none c.as_slice-value-items.result.now c.loop-value.value-index c.value-item.result c.loop-value-test.true (c.in-None.ensures ∙ ap (λ v. as_str (view v)) c.value-item.is) in
    sym (ap (option_and_then texts_in) (sym c.in-Some.ensures) ∙ ap (λ (vs : List Value). texts_in (items_view vs)) (sym c.as_slice-value-items.ensures.value) ∙ none)

pub loop-value-preserved : goal.loop-value-preserved
loop-value-preserved c =
    texts_in-more c.as_slice-value-items.result.now c.loop-value.value-index c.value-item.result (map (λ (t : Bor (List _)). t.now) c.loop-value.texts.items) c.in-Some-as_str.text.now c.loop-value-test.true c.loop-value.invariant
    (c.in-Some-as_str.ensures ∙ ap (λ v. as_str (view v)) c.value-item.is)
    ∙ ap (λ ts. Some ts) (sym (ap (map (λ (t : Bor (List _)). t.now)) c.in_ok-push-in-Some-as_str.ensures.items ∙ map-append (λ (t : Bor (List _)). t.now) c.loop-value.texts.items _))

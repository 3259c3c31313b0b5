use Rattle.std.proofs.Common.{Some, ap, ◌∙◌, sym, refl}
use Rattle.std.specs.Option.{ok_or}
use Rattle.flow_plan.specs.PlanTexts.{key_named}
use Rattle.flow_plan.specs.declared.fault.PlanTextFault.TheVariants.{UnknownElement}
use Rattle.flow_plan.proofs.Listed.{all_of-more, all_of-none, all_of-first}
use Rattle.flow_plan.proofs.named.keys_named.Goals as goal

pub returns-in-None : goal.returns-in-None
returns-in-None c = (
  ap (λ o. ok_or o UnknownElement) (all_of-none (key_named c.args.elements.now) c.args.texts.now c.loop-text.text-index _ c.loop-text-test.true c.in-None.ensures),
  (refl, all_of-first (key_named c.args.elements.now) c.args.texts.now c.loop-text.text-index _ c.loop-text.keys.items _ c.loop-text-test.true c.loop-text.invariant c.in-None.ensures c.in_ok-from_str-in-None.ensures.ok),
)

pub loop-text-preserved : goal.loop-text-preserved
loop-text-preserved c =
    all_of-more (key_named c.args.elements.now) c.args.texts.now c.loop-text.text-index _ c.loop-text.keys.items c.in-Some.key c.loop-text-test.true c.loop-text.invariant c.in-Some.ensures
    ∙ ap (λ xs. Some xs) (sym c.in_ok-push-in-Some.ensures.items)

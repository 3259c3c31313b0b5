use Rattle.std.proofs.Common.{◌+◌, List, take, subst, sym}
use Rattle.flow_filter.specs.declared.value_range.ValueRange.{ValueRange}
use Rattle.flow_filter.specs.Faults.{texts_of, AreTexts}
use Rattle.flow_filter.proofs.Said.{first_unsaid, more_said}
use Rattle.flow_filter.proofs.condition.ranges_in.Goals as goal

pub returns-in-None : goal.returns-in-None
returns-in-None c = first_unsaid c.args.kind c.args.texts.now c.loop-place.place _ c.loop-place.ranges.items c.loop-place-test.true c.loop-place.invariant c.in-None.ensures

pub loop-place-preserved : goal.loop-place-preserved
loop-place-preserved c =
    subst (λ (said : List ValueRange). AreTexts c.args.kind (take (c.loop-place.place + 1) (texts_of c.args.texts.now)) said) (sym c.in_ok-push-in-Some.ensures.items)
    (more_said c.args.kind c.args.texts.now c.loop-place.place _ c.loop-place.ranges.items c.in-Some.range c.loop-place-test.true c.loop-place.invariant c.in-Some.ensures)

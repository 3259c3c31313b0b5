use Rattle.std.proofs.Common.{subst}
use Rattle.std.specs.Prelude.{All}
use Rattle.flow_collect.specs.Headline.{without_links}
use Rattle.flow_collect.specs.Texts.{HasNoFault}
use Rattle.flow_collect_tests.proofs.tests.calling.whole_aggregate.Goals as goal

pub returns-then-have_no_fault : goal.returns-then-have_no_fault
returns-then-have_no_fault g c = λ texts held.
    let serial = c.links_aside.ensures c.args.sources.items c.args.plan.now _ c.in_ok-run.run' c.in_ok-run.ensures.ok in
    let no_fault = subst (All HasNoFault) c.deref.ensures.value (c.have_no_fault.ensures c.if-have_no_fault.true) in
    c.whole_texts_add_up.ensures.added_up c.args.sources.items c.args.plan.now texts (without_links c.in_ok-run.run') (record { headline = serial; texts_are = held; no_fault = no_fault })

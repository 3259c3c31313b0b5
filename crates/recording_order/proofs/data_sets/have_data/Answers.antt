use Rattle.std.proofs.Common.{◌≡◌, ◌∙◌, length, sym, rules}
use Rattle.recording_order.proofs.DataSets.{have_data-here, have_data-behind, have_data-none, have_data-nil}
use Rattle.recording_order.proofs.data_sets.have_data.Goals as goal

pub returns-in_default : goal.returns-in_default
returns-in_default c = sym (have_data-none c.loop-rest.rest.now c.in_default.field-0 c.in_default.ensures.exact) ∙ c.loop-rest.invariant

pub returns-then-set-ge-FIRST_TEMPLATE_ID : goal.returns-then-set-ge-FIRST_TEMPLATE_ID
returns-then-set-ge-FIRST_TEMPLATE_ID c =
    sym (have_data-here c.loop-rest.rest.now c.in-Ok.set c.in-Ok.ensures.exact c.if-set-ge-FIRST_TEMPLATE_ID.true) ∙ c.loop-rest.invariant

pub loop-rest-preserved : goal.loop-rest-preserved
loop-rest-preserved c =
    let behind = have_data-behind c.loop-rest.rest.now c.in-Ok.set c.in-Ok.ensures.exact c.if-set-ge-FIRST_TEMPLATE_ID.false in
    rw (c.split_at-in-loop-rest.ensures.back, c.split_at.ensures.back) (sym behind ∙ c.loop-rest.invariant)

pub returns : goal.returns
returns c =
    let none : length c.loop-rest.rest.now ≡ 0 = search rules in
    sym (have_data-nil c.loop-rest.rest.now none) ∙ c.loop-rest.invariant

use Rattle.std.proofs.Common.{ap, ◌∙◌}
use Rattle.ipfix_session.specs.Given.{Given, records_in}
use Rattle.flow_collect.specs.Contexts.{limits_in}
use Rattle.ipfix_session.proofs.Unlimited.{given_all_within}
use Rattle.flow_collect.proofs.laws.limits_leave_nothing_out.Goals as goal

pub returns : goal.returns
returns g c = λ before after full records text given none is.
    let all = given_all_within g.S.Source.seen (limits_in before.context) before.source after full.report records text (g.met.S.Source.ended_is_end after) given.given none is in
    (all.clean, all.within ∙ ap (λ (w : Given). records_in w.messages) all.same)

use Rattle.std.proofs.Common.{sym, subst, ap, ◌∙◌, Some}
use Rattle.ipfix_session.specs.Feeding.{State, StandsForText, Tells}
use Rattle.ipfix_session.proofs.InFull.{domains_of_open, in_full, in_full_refused}
use Rattle.ipfix_session.proofs.Reaching.{may_go_on}
use Rattle.ipfix_session.proofs.session.Session.finish_after.Goals as goal

pub returns-clause-text : goal.returns-clause-text
returns-clause-text c = λ none limit text stands.
    let inside = subst (λ (s : State). StandsForText limit s text) (sym c.self.view_is) stands in
    let is_open = may_go_on limit _ text inside (ap (λ (s : State). s.fault) c.self.view_is ∙ none) in
    in_full c.into_report.result _ _ c.self.inside.intake.domains (Some c.args.fault) c.into_report.ensures.fault (c.into_report.ensures.counts _ _ inside.tells) c.into_report.ensures.domains
    (λ goes_on. domains_of_open limit _ text inside is_open)

pub returns-clause-so_far : goal.returns-clause-so_far
returns-clause-so_far c = λ refused ms delivered tells.
    let inside = subst (λ (s : State). Tells s.counts ms delivered) (sym c.self.view_is) tells in
    in_full_refused c.into_report.result ms delivered c.self.inside.intake.domains (Some c.args.fault) c.into_report.ensures.fault (c.into_report.ensures.counts ms delivered inside) c.into_report.ensures.domains refused

use Rattle.std.proofs.Common.{sym, subst, ap, ◌∙◌, cond, Option, Some, None, ◌≡◌, false}
use Rattle.ipfix_session.specs.declared.fault.SessionFault.{SessionFault}
use Rattle.ipfix_session.specs.Faults.{end_within, ends_open}
use Rattle.ipfix_session.specs.Feeding.{State, StandsForText, Tells}
use Rattle.ipfix_session.specs.Reports.{ended_by}
use Rattle.ipfix_session.proofs.InFull.{domains_at_end, in_full, in_full_refused, still_refused}
use Rattle.ipfix_session.proofs.Places.{place_is_within}
use Rattle.ipfix_session.proofs.Reaching.{ended}
use Rattle.ipfix_session.proofs.session.Session.finish_in_full.Goals as goal

pub returns-clause-text : goal.returns-clause-text
returns-clause-text c = λ limit text stands.
    let inside = subst (λ (s : State). StandsForText limit s text) (sym c.self.view_is) stands in
    let counts = c.into_report.ensures.counts _ _ inside.tells in
    let ends = c.fault_at_end.ensures ∙ ap (ended_by c.self.inside.fault) c.deref.ensures.value ∙ ended limit _ text inside in
    let fault = c.into_report.ensures.fault ∙ ends in
    let domains = c.into_report.ensures.domains ∙ ap (λ (o : Option SessionFault). cond (ends_open o) (Some c.self.inside.intake.domains) None) ends in
    record {
      reports = in_full c.into_report.result _ _ c.self.inside.intake.domains (end_within limit text) fault counts domains (domains_at_end limit _ text inside);
      fault = fault;
      stopped_at = counts.stopped_at ∙ place_is_within limit text;
    }

pub returns-clause-refused : goal.returns-clause-refused
returns-clause-refused c = λ refused ms delivered tells.
    let inside = subst (λ (s : State). Tells s.counts ms delivered) (sym c.self.view_is) tells in
    let closed = subst (λ (s : State). ends_open s.fault ≡ false) (sym c.self.view_is) refused in
    let ends = c.fault_at_end.ensures ∙ ap (ended_by c.self.inside.fault) c.deref.ensures.value in
    in_full_refused c.into_report.result ms delivered c.self.inside.intake.domains c.fault_at_end.result c.into_report.ensures.fault (c.into_report.ensures.counts ms delivered inside) c.into_report.ensures.domains
    (ap ends_open ends ∙ still_refused c.self.inside.fault _ closed)

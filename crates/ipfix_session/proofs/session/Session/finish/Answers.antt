use Rattle.ipfix_session.proofs.session.Session.finish.Goals as goal

pub returns-clause-text : goal.returns-clause-text
returns-clause-text c = λ limit text stands.
    let full = c.finish_in_full.ensures.text limit text stands in
    record { reports = full.reports.counts.reports; fault = full.fault }

pub returns-clause-so_far : goal.returns-clause-so_far
returns-clause-so_far c = λ ms delivered tells. (c.finish_in_full.ensures.so_far ms delivered tells).reports

use Rattle.command_collect.proofs.Refused.{faults_if_had, faults_if_not_had}
use Rattle.command_collect.proofs.engine.collect_over_links.Goals as goal

pub returns-in-Ok-clause-ok : goal.returns-in-Ok-clause-ok
returns-in-Ok-clause-ok g c =
    let h = c.in-Ok.ensures.ok in
    let is = c.without_links.ensures in
    record {
      headline = record { records = h.records; given = rw (is.sources, is.sessions) h.given; added_up = rw is.table h.added_up };
      came = (c.in-Ok.collected.links.items, h.received);
    }

pub returns-in-Ok-clause-faults : goal.returns-in-Ok-clause-faults
returns-in-Ok-clause-faults g c = faults_if_had _ _ _ c.in-Ok.collected _ c.in-Ok.ensures.faults

pub returns-in-Err-clause-faults : goal.returns-in-Err-clause-faults
returns-in-Err-clause-faults g c = faults_if_not_had _ _ _ c.in-Err.failure.fault c.in-Err.ensures.faults

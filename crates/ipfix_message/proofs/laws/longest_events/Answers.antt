use Rattle.ipfix_message.proofs.TemplateRecords.{events_of-found, events_of-only, template_set-whole, fault_after_events-first}
use Rattle.ipfix_message.proofs.laws.longest_events.Goals as goal

pub returns-clause-found : goal.returns-clause-found
returns-clause-found c = events_of-found

pub returns-clause-only : goal.returns-clause-only
returns-clause-only c = events_of-only

pub returns-clause-whole : goal.returns-clause-whole
returns-clause-whole c = template_set-whole

pub returns-clause-fault : goal.returns-clause-fault
returns-clause-fault c = fault_after_events-first

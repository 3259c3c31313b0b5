use Rattle.ipfix_session.proofs.Driven.{driven_is_given, driven_took_all}
use Rattle.ipfix_session.proofs.laws.driven_is_given.Goals as goal

pub returns-clause-refused : goal.returns-clause-refused
returns-clause-refused g c = driven_took_all g.S.Source.seen g.K.Sink.seen

pub returns-clause-fault : goal.returns-clause-fault
returns-clause-fault g c = driven_is_given g.S.Source.seen g.K.Sink.seen

use Rattle.ipfix_session.proofs.Driving.{Driving}
use Rattle.ipfix_session.proofs.driver.drive_through.Given as goal

abbrev pub invariant-loop : goal.invariant-loop
invariant-loop g l = Driving g.K.Sink.seen l.fn.limits.templates l.counter (g.S.Source.seen l.initial.source) (g.S.Source.seen l.source) l.initial.sink l.sink l.session

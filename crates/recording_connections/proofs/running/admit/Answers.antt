use Rattle.recording_connections.proofs.Told.{next-of}
use Rattle.recording_connections.proofs.running.admit.Goals as goal

pub returns-clause-next : goal.returns-clause-next
returns-clause-next g c = next-of c.deref_mut-2.result.now c.admit.result c.admit.ensures.next

use Rattle.std.proofs.Common.{length, ap, arith}
use Rattle.recording_peers.proofs.ScriptLemmas.{ticks_on}
use Rattle.recording_peers.proofs.script_datagrams.ScriptDatagramsDatagramSource.receive.Goals as goal

pub returns-in-None-clause-gives : goal.returns-in-None-clause-gives
returns-in-None-clause-gives c = λ before h e. ticks_on _ _ before (omega (arith, c.in-None.ensures.lookup, ap length c.deref.ensures.value)) (h e)

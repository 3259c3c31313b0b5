use Rattle.ipfix_datagrams.proofs.DefinesSome.{defines_by}
use Rattle.ipfix_datagrams.proofs.reading.DatagramReading.defines.Goals as goal

pub returns : goal.returns
returns c = λ resumed ds m x reading. defines_by c.args.self.now.definitions m c.is_empty.result reading.defines c.is_empty.ensures.0 c.is_empty.ensures.1

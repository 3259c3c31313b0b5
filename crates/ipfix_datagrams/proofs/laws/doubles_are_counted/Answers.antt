use Rattle.ipfix_datagrams.proofs.Streams.{one_twice}
use Rattle.ipfix_datagrams.proofs.laws.doubles_are_counted.Goals as goal

pub returns-clause-advance : goal.returns-clause-advance
returns-clause-advance c = λ d. (one_twice d.close.0 d.double d.twice d.once d.close.1 d.doubled).0

pub returns-clause-came : goal.returns-clause-came
returns-clause-came c = λ d. (one_twice d.close.0 d.double d.twice d.once d.close.1 d.doubled).1

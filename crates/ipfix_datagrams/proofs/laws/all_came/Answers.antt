use Rattle.ipfix_datagrams.proofs.Streams.{when_all_came}
use Rattle.ipfix_datagrams.proofs.laws.all_came.Goals as goal

pub returns-clause-advance : goal.returns-clause-advance
returns-clause-advance c = λ ms are. (when_all_came are.before ms are.numbered are.few).0

pub returns-clause-missing : goal.returns-clause-missing
returns-clause-missing c = λ ms are. (when_all_came are.before ms are.numbered are.few).1

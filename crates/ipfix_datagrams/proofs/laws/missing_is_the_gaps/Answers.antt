use Rattle.ipfix_datagrams.proofs.Streams.{the_gaps}
use Rattle.ipfix_datagrams.proofs.laws.missing_is_the_gaps.Goals as goal

pub returns-clause-advance : goal.returns-clause-advance
returns-clause-advance c = λ es are. (the_gaps are.before es are.ends are.numbered are.few).0

pub returns-clause-missing : goal.returns-clause-missing
returns-clause-missing c = λ es are. (the_gaps are.before es are.ends are.numbered are.few).1

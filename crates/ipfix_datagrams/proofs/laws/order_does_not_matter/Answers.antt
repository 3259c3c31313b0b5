use Rattle.ipfix_datagrams.proofs.Streams.{in_any_order}
use Rattle.ipfix_datagrams.proofs.laws.order_does_not_matter.Goals as goal

pub returns-clause-advance : goal.returns-clause-advance
returns-clause-advance c = λ s. (in_any_order s.close.0 s.one s.other s.close.1 s.swapped).0

pub returns-clause-came : goal.returns-clause-came
returns-clause-came c = λ s. (in_any_order s.close.0 s.one s.other s.close.1 s.swapped).1

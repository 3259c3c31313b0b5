use Rattle.ipfix_datagrams.proofs.Streams.{to_the_furthest}
use Rattle.ipfix_datagrams.proofs.laws.advance_is_to_the_furthest.Goals as goal

pub returns : goal.returns
returns c = to_the_furthest

use Rattle.std.proofs.Common.{true, refl, rules}
use Rattle.recording_datagrams.proofs.datagram_taker.DatagramTaker.take_from.Goals as goal

pub returns : goal.returns
returns g c = (
  true,
  record {
    lines = c.record_and_tell.ensures.lines;
    are = record { arrives = record { may_send = search rules; taken = c.record_and_tell.ensures.are }; others = refl };
    told = c.record_and_tell.ensures.told;
  },
)

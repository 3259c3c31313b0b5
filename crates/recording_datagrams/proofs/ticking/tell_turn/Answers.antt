use Rattle.std.proofs.Common.{refl}
use Rattle.recording_datagrams.proofs.Told.{and_tells}
use Rattle.recording_datagrams.proofs.ticking.tell_turn.Goals as goal

pub returns : goal.returns
returns g c =
    let went_on = rw c.as_slice.ensures.value at c.tell_resumed-went_on.ensures in
    let ordered = rw c.as_slice-2.ensures.value at c.tell_orders-ordered.ensures in
    record {
      lines = _;
      are = record { fall = c.end_if.ensures.lines; falls = c.end_if.ensures.are; lines_are = refl };
      told = rw (c.and-3.ensures, c.and-2.ensures, c.and.ensures) (and_tells c.tell_refusals-told.ensures (and_tells went_on (and_tells ordered c.end_if.ensures.told)));
    }

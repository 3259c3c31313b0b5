use Rattle.std.proofs.Common.{refl}
use Rattle.recording_datagrams.proofs.GoingOver.{limits_both}
use Rattle.recording_datagrams.proofs.Told.{and_tells}
use Rattle.recording_datagrams.proofs.datagram_taker.DatagramTaker.tell_and_end.Goals as goal

pub returns : goal.returns
returns g c =
    let turns = c.go_over-told.ensures.turns in
    let silent = c.end_silent-ended.ensures.silent in
    record {
      lines = _;
      are = record {
        between = c.go_over-told.new.peers.kept.entries;
        told = turns.lines;
        turns = turns.are;
        ended = silent.lines;
        silent = rw c.saturating_sub-since.ensures at silent.are;
        lines_are = refl;
        limits = limits_both c.go_over-told.ensures.limits c.end_silent-ended.ensures.limits;
        others = rw c.tell_unserved-unserved.ensures.none_left refl;
      };
      told = rw (c.and-2.ensures, c.and.ensures)
          (and_tells turns.told
          (and_tells silent.told c.tell_unserved-unserved.ensures.told));
    }

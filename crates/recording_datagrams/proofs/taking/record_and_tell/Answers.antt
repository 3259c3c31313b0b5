use Rattle.std.proofs.Common.{refl}
use Rattle.recording_datagrams.proofs.Told.{and_tells}
use Rattle.recording_datagrams.proofs.taking.record_and_tell.Goals as goal

pub returns : goal.returns
returns g c = record {
  lines = _;
  are = record {
    became = c.record-became.result.became;
    counted = c.count_placeless.ensures;
    gone = c.record-became.result.gone;
    records = c.record-became.ensures.records;
    limits = c.record-became.ensures.limits;
    gone_lines = c.tell_gone-told.ensures.lines;
    goes = c.tell_gone-told.ensures.are;
    own_lines = c.tell_became.ensures.lines;
    becomes = c.tell_became.ensures.are;
    lines_are = refl;
  };
  told = rw c.and.ensures (and_tells c.tell_gone-told.ensures.told c.tell_became.ensures.told);
}

use Rattle.std.proofs.Common.{[], refl}
use Rattle.recording_datagrams.proofs.GoingOver.{limits_both, none_ended, one_ended}
use Rattle.recording_datagrams.proofs.Told.{and_tells, tells_nothing}
use Rattle.recording_datagrams.proofs.ticking.end_silent.Goals as goal

pub loop-init : goal.loop-init
loop-init g c = (
  record {
    lines = [];
    are = none_ended g.F.FileSeries.seen g.F.RecordingFiles.finishes c.args.since c.args.peers.now.kept.entries;
    told = tells_nothing;
  },
  record { room = refl; limits = refl },
)

pub loop-preserved : goal.loop-preserved
loop-preserved g c =
    let was = c.loop.invariant.0 in
    let ended = c.in-Some.ensures.silent in (
      record {
        lines = _;
        are = one_ended g.F.FileSeries.seen g.F.RecordingFiles.finishes c.args.since c.args.peers.now.kept.entries c.loop.peers.kept.entries c.end_one.new.peers.kept.entries c.loop.counter was.lines ended.lines was.are ended.are;
        told = rw c.and-told.ensures (and_tells was.told ended.told);
      },
      limits_both c.loop.invariant.1 c.in-Some.ensures.limits,
    )

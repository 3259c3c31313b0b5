use Rattle.std.proofs.Common.{[], refl, arith}
use Rattle.recording_datagrams.proofs.GoingOver.{gone_first, gone_later, gone_over, limits_both}
use Rattle.recording_datagrams.proofs.Told.{tells_nothing, and_tells}
use Rattle.recording_datagrams.proofs.ticking.go_over.Goals as goal

pub loop-init : goal.loop-init
loop-init g c = (
  record {
    lines = [];
    are = gone_first g.F.FileSeries.seen g.F.RecordingFiles.finishes c.args.second c.args.is_over c.args.peers.now.kept.entries;
    told = tells_nothing;
  },
  record { room = refl; limits = refl },
)

pub loop-preserved : goal.loop-preserved
loop-preserved g c =
    let was = c.loop.invariant.0 in
    let inside = c.loop-test.true in
    let turn = gone_later g.F.FileSeries.seen g.F.RecordingFiles.finishes c.args.second c.args.is_over c.args.peers.now.kept.entries c.loop.peers.kept.entries c.loop.counter was.lines was.are (omega (arith, c.len-end.ensures)) c.go_on.ensures.turn in (
      record {
        lines = _;
        are = turn.1;
        told = rw c.and-told.ensures (and_tells was.told turn.0.told);
      },
      limits_both c.loop.invariant.1 c.go_on.ensures.limits,
    )

pub returns : goal.returns
returns g c =
    let was = c.loop.invariant.0 in
    record {
      turns = record {
        lines = was.lines;
        are = gone_over g.F.FileSeries.seen g.F.RecordingFiles.finishes c.args.second c.args.is_over c.args.peers.now.kept.entries c.loop.peers.kept.entries c.loop.counter was.lines was.are (omega (arith, c.len-end.ensures, c.loop-test.false));
        told = was.told;
      };
      limits = c.loop.invariant.1;
    }

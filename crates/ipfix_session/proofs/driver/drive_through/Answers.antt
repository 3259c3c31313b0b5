use Rattle.std.proofs.Common.{arith}
use Rattle.ipfix_session.proofs.Driving.{drives_failed, drives_limit, driving_first, driving_fed, driving_again, drives_fault, drives_ended}
use Rattle.ipfix_session.proofs.driver.drive_through.Goals as goal
use Rattle.ipfix_session.proofs.driver.drive_through.Goals.{in-Ok+in_default, in-Err-Interrupted}

pub loop-init : goal.loop-init
loop-init g c = driving_first g.K.Sink.seen c.args.limits.templates (g.S.Source.seen c.args.source.now) c.args.sink.now c.with_limit-session.result c.with_limit-session.ensures

pub returns-in-Ok-eq0 : goal.returns-in-Ok-eq0
returns-in-Ok-eq0 g c =
    let d = c.loop.invariant in
    let full = c.finish_in_full.ensures.text c.args.limits.templates d.gave d.stands in
    drives_ended g.S.Source.seen g.K.Sink.seen c.args.limits c.loop.counter c.in-Ok-eq0.field-0 _ c.loop.source _ c.args.sink.now c.loop.sink c.loop.session c.read.new.buffer c.finish_in_full.result.report.fault _
    d c.loop-test.true c.in-Ok-eq0.ensures c.in-Ok-eq0.field-0-test (omega (arith, c.read.auto.buffer, c.loop.auto.buffer, c.requires.some)) full.reports full.fault

pub returns-in-Err : goal.returns-in-Err
returns-in-Err g c =
    let d = c.loop.invariant in
    drives_fault g.S.Source.seen g.K.Sink.seen c.args.limits c.loop.counter c.in-Ok.count _ c.loop.source _ c.args.sink.now c.loop.sink c.feed.new.sink c.loop.session c.feed.new.self c.read.new.buffer c.finish_after.result.report.fault _
    c.in-Err.fault d c.loop-test.true (omega (arith, c.read.auto.buffer, c.loop.auto.buffer, c.requires.room)) c.in-Ok.ensures (c.in-Err.ensures.feeds c.args.limits.templates d.gave d.stands) c.finish_after.ensures.so_far c.finish_after.ensures.fault

pub returns-in-Err-Failed : goal.returns-in-Err-Failed
returns-in-Err-Failed g c =
    drives_failed g.S.Source.seen g.K.Sink.seen c.args.limits c.loop.counter _ c.loop.source _ c.args.sink.now c.loop.sink c.loop.session c.read.new.buffer c.finish_after-in-Err-Failed.result.report.fault _
    c.loop.invariant c.loop-test.true (rw c.in-Err-Failed.field-0-is at c.in-Err-Failed.ensures) (c.finish_after-in-Err-Failed.ensures.text c.loop.invariant.no_fault c.args.limits.templates c.loop.invariant.gave c.loop.invariant.stands) c.finish_after-in-Err-Failed.ensures.fault

pub returns : goal.returns
returns g c =
    drives_limit g.S.Source.seen g.K.Sink.seen c.args.limits c.loop.counter _ c.loop.source c.args.sink.now c.loop.sink c.loop.session c.finish_after-2.result.report.fault _
    c.loop.invariant (omega (arith, c.loop-test.false, c.loop.auto.counter-end)) (c.finish_after-2.ensures.text c.loop.invariant.no_fault c.args.limits.templates c.loop.invariant.gave c.loop.invariant.stands) c.finish_after-2.ensures.fault

pub loop-preserved : goal.loop-preserved
loop-preserved g c =
    let d = c.loop.invariant in
    elim c.match-read.branch [
      | in-Ok+in_default w ↦
          rw (w.sink-is, w.session-is) (driving_fed g.K.Sink.seen c.args.limits.templates c.loop.counter w.in-Ok.count _ (g.S.Source.seen c.loop.source) _ c.args.sink.now c.loop.sink w.feed.new.sink c.loop.session w.feed.new.self c.read.new.buffer
          d w.in-Ok.ensures w.in-Ok.count-test.1 (rw w.in_default.is at (w.feed.ensures.feeds c.args.limits.templates d.gave d.stands)).1 (rw w.in_default.is at w.feed.ensures.ok))
      | in-Err-Interrupted w ↦
          rw (w.sink-is, w.session-is) (driving_again g.K.Sink.seen c.args.limits.templates c.loop.counter _ (g.S.Source.seen c.loop.source) _ c.args.sink.now c.loop.sink c.loop.session c.read.new.buffer
          d (rw w.in-Err-Interrupted.field-0-is at w.in-Err-Interrupted.ensures))
    ]

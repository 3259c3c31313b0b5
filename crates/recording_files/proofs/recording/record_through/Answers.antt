use Rattle.std.proofs.Common.{take, [], arith}
use Rattle.ipfix_session.proofs.Driving.{read_fits}
use Rattle.recording_files.specs.Sessions.{progress_after}
use Rattle.recording_files.proofs.ReadOn.{fed, interrupted, reading_first, reading_on, records_fault, records_ended, records_failed, records_limit}
use Rattle.recording_files.proofs.recording.record_through.Goals as goal
use Rattle.recording_files.proofs.recording.record_through.Goals.{in-Ok+in_default, in-Err-Interrupted+in_default-take_read}

pub loop-init : goal.loop-init
loop-init g c = λ keeps fresh.
    reading_first g.S.Source.seen g.C.PeriodClock.asked c.args.limits.templates c.args.source.now c.args.clock.now (g.F.FileSeries.seen c.args.files.now) c.args.gathering.now c.new-begun.result.items c.new-begun.ensures.items keeps fresh

pub returns-in-Ok-eq0 : goal.returns-in-Ok-eq0
returns-in-Ok-eq0 g c = λ keeps fresh.
    records_ended g.S.Source.seen g.F.FileSeries.seen g.C.PeriodClock.asked c.args.limits c.args.files.now c.loop.files (c.loop.invariant keeps fresh) c.read.new.self c.in-Ok-eq0.field-0 c.read.new.buffer c.answer_at_end.result
    c.loop-test.true c.in-Ok-eq0.ensures c.in-Ok-eq0.field-0-test (omega (arith, c.read.auto.buffer, c.loop.auto.buffer, c.requires)) (rw c.deref.ensures.value at c.answer_at_end.ensures.whole) (rw c.deref.ensures.value at c.answer_at_end.ensures.cut)

pub returns-in-Err : goal.returns-in-Err
returns-in-Err g c = λ keeps fresh.
    let d = c.loop.invariant keeps fresh in
    let on = fed (g.S.Source.seen c.loop.source) (g.S.Source.seen c.read.new.self) c.in-Ok.count c.read.new.buffer c.in-Ok.ensures c.in-Ok.count-test.1 in
    records_fault g.S.Source.seen g.F.FileSeries.seen g.C.PeriodClock.asked c.args.limits c.args.files.now c.loop.files d c.read.new.self c.take_read.new.files c.is_over-is_over.new.self c.take_read.new.gathering
    (take c.in-Ok.count c.read.new.buffer) c.is_over-is_over.result c.in-Err.fault
    c.loop-test.true (read_fits c.in-Ok.count c.read.new.buffer c.in-Ok.ensures.fits (omega (arith, c.read.auto.buffer, c.loop.auto.buffer, c.requires))) on c.is_over-is_over.ensures
    (c.in-Err.ensures (progress_after c.args.limits.templates (g.F.FileSeries.seen c.args.files.now) d.reads) d.recorded)

pub returns-in-Err-take_read : goal.returns-in-Err-take_read
returns-in-Err-take_read g c = λ keeps fresh.
    let d = c.loop.invariant keeps fresh in
    let on = interrupted (g.S.Source.seen c.loop.source) (g.S.Source.seen c.read.new.self) c.read.new.buffer (rw c.in-Err-Interrupted.field-0-is at c.in-Err-Interrupted.ensures) in
    records_fault g.S.Source.seen g.F.FileSeries.seen g.C.PeriodClock.asked c.args.limits c.args.files.now c.loop.files d c.read.new.self c.take_read-in-Err-Interrupted.new.files c.is_over-is_over-in-Err-Interrupted.new.self
    c.take_read-in-Err-Interrupted.new.gathering [] c.is_over-is_over-in-Err-Interrupted.result c.in-Err-take_read.fault
    c.loop-test.true (omega arith) on c.is_over-is_over-in-Err-Interrupted.ensures (c.in-Err-take_read.ensures (progress_after c.args.limits.templates (g.F.FileSeries.seen c.args.files.now) d.reads) d.recorded)

pub returns-in-Err-Failed : goal.returns-in-Err-Failed
returns-in-Err-Failed g c = λ keeps fresh.
    records_failed g.S.Source.seen g.F.FileSeries.seen g.C.PeriodClock.asked c.args.limits c.args.files.now c.loop.files (c.loop.invariant keeps fresh) c.read.new.self c.read.new.buffer
    c.loop-test.true (rw c.in-Err-Failed.field-0-is at c.in-Err-Failed.ensures)

pub returns : goal.returns
returns g c = λ keeps fresh.
    records_limit g.S.Source.seen g.F.FileSeries.seen g.C.PeriodClock.asked c.args.limits c.args.files.now c.loop.files (c.loop.invariant keeps fresh) (omega (arith, c.loop-test.false, c.loop.auto.counter-end))

pub loop-preserved : goal.loop-preserved
loop-preserved g c = λ keeps fresh.
    let d = c.loop.invariant keeps fresh in
    let p = progress_after c.args.limits.templates (g.F.FileSeries.seen c.args.files.now) d.reads in
    elim c.match-read.branch [
      | in-Ok+in_default w ↦ rw (w.files-is, w.gathering-is, w.begun-is, w.clock-is)
          (reading_on g.S.Source.seen g.C.PeriodClock.asked d c.read.new.self w.is_over-is_over.new.self (g.F.FileSeries.seen w.take_read.new.files) w.take_read.new.gathering w.take_read.new.buffer.items
          (take w.in-Ok.count c.read.new.buffer) w.is_over-is_over.result
          (fed (g.S.Source.seen c.loop.source) (g.S.Source.seen c.read.new.self) w.in-Ok.count c.read.new.buffer w.in-Ok.ensures w.in-Ok.count-test.1) w.is_over-is_over.ensures
          (rw w.in_default.is at (w.take_read.ensures p d.recorded)))
      | in-Err-Interrupted+in_default-take_read w ↦ rw (w.files-is, w.gathering-is, w.begun-is, w.clock-is)
          (reading_on g.S.Source.seen g.C.PeriodClock.asked d c.read.new.self w.is_over-is_over-in-Err-Interrupted.new.self (g.F.FileSeries.seen w.take_read-in-Err-Interrupted.new.files) w.take_read-in-Err-Interrupted.new.gathering
          w.take_read-in-Err-Interrupted.new.buffer.items [] w.is_over-is_over-in-Err-Interrupted.result
          (interrupted (g.S.Source.seen c.loop.source) (g.S.Source.seen c.read.new.self) c.read.new.buffer (rw w.in-Err-Interrupted.field-0-is at w.in-Err-Interrupted.ensures)) w.is_over-is_over-in-Err-Interrupted.ensures
          (rw w.in_default-take_read.is at (w.take_read-in-Err-Interrupted.ensures p d.recorded)))
    ]

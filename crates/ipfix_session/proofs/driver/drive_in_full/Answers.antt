use Rattle.std.proofs.Common.{refl}
use Rattle.ipfix_session.proofs.Driving.{drives_nowhere}
use Rattle.ipfix_session.proofs.driver.drive_in_full.Goals as goal

pub returns-in-Err : goal.returns-in-Err
returns-in-Err g c =
    drives_nowhere g.S.Source.seen g.K.Sink.seen c.args.limits c.args.source.now c.args.sink.now c.with_limit.result c.finish_after.result.report.fault _
    c.with_limit.ensures (c.finish_after.ensures.so_far refl) c.finish_after.ensures.fault

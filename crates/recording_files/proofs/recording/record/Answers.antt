use Rattle.std.proofs.Common.{sym, subst}
use Rattle.std.specs.Prelude.{Result}
use Rattle.recording_files.specs.declared.record_fault.RecordFault.{RecordFault}
use Rattle.recording_files.specs.Recorders.{Counted}
use Rattle.recording_files.specs.Sessions.{IsTold, RecordsTo}
use Rattle.recording_files.proofs.ReadOn.{records_told}
use Rattle.recording_files.proofs.recording.record.Goals as goal

pub returns : goal.returns
returns g c = λ fresh.
    let r = c.into_session.result in
    let told = records_told {told = Counted c.record_gathering-ended.new.gathering.counts.told} {tells = IsTold r} (λ before here counted. c.into_session.ensures.told before here counted)
    g.S.Source.seen g.F.FileSeries.seen g.C.PeriodClock.asked c.args.limits c.args.source.now c.record_gathering-ended.new.source c.args.files.now c.record_gathering-ended.new.files c.args.clock.now c.record_gathering-ended.new.clock c.record_gathering-ended.result
    (c.record_gathering-ended.ensures c.new-gathering.ensures fresh) in
    subst (λ (a : Result (Unit {0}) RecordFault).
    RecordsTo g.S.Source.seen g.F.FileSeries.seen g.C.PeriodClock.asked c.args.limits c.args.source.now c.record_gathering-ended.new.source c.args.files.now c.record_gathering-ended.new.files c.args.clock.now c.record_gathering-ended.new.clock a (IsTold r))
    (sym c.into_session.ensures.ended) told

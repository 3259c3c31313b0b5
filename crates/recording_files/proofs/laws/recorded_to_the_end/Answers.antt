use Rattle.recording_files.proofs.FilesGive.{recorded_all}
use Rattle.recording_files.proofs.laws.recorded_to_the_end.Goals as goal

pub returns-clause-clean : goal.returns-clause-clean
returns-clause-clean g c = λ r. (recorded_all g.S.Source.seen g.F.FileSeries.seen g.C.PeriodClock.asked g.met.S.Source.ended_is_end r.text r.first r.last r.now r.records r.are_seen).0

pub returns-clause-all : goal.returns-clause-all
returns-clause-all g c = λ r. (recorded_all g.S.Source.seen g.F.FileSeries.seen g.C.PeriodClock.asked g.met.S.Source.ended_is_end r.text r.first r.last r.now r.records r.are_seen).1

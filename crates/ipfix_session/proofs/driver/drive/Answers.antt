use Rattle.ipfix_session.specs.Drives.{unlimited}
use Rattle.ipfix_session.proofs.Driving.{drives_told}
use Rattle.ipfix_session.proofs.driver.drive.Goals as goal

pub returns : goal.returns
returns g c = drives_told g.S.Source.seen g.K.Sink.seen (unlimited c.args.limit) _ _ _ _ _ _ _ (λ ms delivered full. full.counts.reports) c.drive_in_full.ensures

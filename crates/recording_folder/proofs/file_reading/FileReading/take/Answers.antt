use Rattle.std.proofs.Common.{◌++◌}
use Rattle.recording_folder.proofs.FileReadings.{taken}
use Rattle.recording_folder.proofs.file_reading.FileReading.take.Goals as goal

pub returns : goal.returns
returns c = λ text has. taken c.read-2.result (record { whole = c.read.new.self; session = c.read-2.new.self }) (text ++ c.args.piece.now) (c.read.ensures text has.whole) (c.read-2.ensures text has.session)

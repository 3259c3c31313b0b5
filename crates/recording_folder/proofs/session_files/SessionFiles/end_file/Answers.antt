use Rattle.std.proofs.Common.{Err, Some, refl, subst}
use Rattle.recording_folder.specs.EndedFiles.{EndsFile}
use Rattle.recording_folder.proofs.session_files.SessionFiles.end_file.Goals as goal

pub returns-in-Err-clause-ends : goal.returns-in-Err-clause-ends
returns-in-Err-clause-ends g c =
    subst (λ file. EndsFile g.K.FileFinisher.finishes file c.args.report.now (Err record {}) c.args.self.now.reason (Some c.in-Err.field-0.reason) c.args.self.now.finisher c.finish_or_queue-finished.new.self.finisher)
    c.in-Some.ensures.value (_, c.in-Err.ensures.finishes, refl)

use Rattle.std.proofs.Common.{◌≡◌}
use Rattle.recording_folder.specs.EndedFiles.{StaysInPlace}
use Rattle.recording_folder.proofs.ended_file.FolderFinisher.finish_apart.Given as goal

abbrev pub invariant-loop : goal.invariant-loop
invariant-loop g l =
    (l.self.log ≡ l.initial.self.log) ×
    (l.self.folder ≡ l.initial.self.folder) ×
    (l.ended.report ≡ l.initial.ended.report) ×
    StaysInPlace l.initial.ended.unfinished l.ended.unfinished

use Rattle.std.proofs.Common.{◌≡◌}
use Rattle.recording_folder.proofs.session_files.SessionFiles.make_file.Given as goal

-- only the finisher has changed meanwhile
abbrev pub invariant-loop : goal.invariant-loop
invariant-loop g l = (l.self.failed ≡ l.fn.self.failed) × (l.self.session ≡ l.fn.self.session) × (l.self.unfinished ≡ l.fn.self.unfinished)

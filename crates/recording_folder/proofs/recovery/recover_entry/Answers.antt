use Rattle.std.proofs.Common.{inl}
use Rattle.recording_folder.proofs.recovery.recover_entry.Goals as goal

pub returns-clause-ok : goal.returns-clause-ok
returns-clause-ok g c = inl (c.in-Some.told, c.recover_file.ensures)

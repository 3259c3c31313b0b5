use Rattle.std.proofs.Common.{inl}
use Rattle.recording_folder.proofs.ended_file.FolderFinisher.finish_apart.Goals as goal

pub returns-in-Ok : goal.returns-in-Ok
returns-in-Ok g c =
    let inv = c.loop.invariant in
    inl (rw (inv.3, inv.2, inv.1, inv.0) at c.in-Ok.ensures.finished)

use Rattle.recording_connections.proofs.system.finish_recordings.Goals as goal

pub returns : goal.returns
returns g c = (_, c.in_ok-folder.ensures, c.in_ok-stayed.ensures)

use Rattle.recording_files.proofs.Adding.{adds_up, files_add_up}
use Rattle.recording_files.proofs.laws.file_reports_add_up.Goals as goal

pub returns : goal.returns
returns c = record { told = adds_up; files = files_add_up }

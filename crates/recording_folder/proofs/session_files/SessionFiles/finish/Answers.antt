use Rattle.std.proofs.Common.{inl, inr, refl, rules}
use Rattle.recording_folder.proofs.session_files.SessionFiles.finish.Goals as goal

pub returns-in-Some : goal.returns-in-Some
returns-in-Some g c = record {
  ended = c.end_file-finished.result;
  fails = c.end_file-finished.new.self.reason;
  after = c.end_file-finished.new.self.finisher;
  ends = c.end_file-finished.ensures.ends;
  told = inr (search rules);
}

pub returns : goal.returns
returns g c = record {
  ended = c.end_file-finished.result;
  fails = c.end_file-finished.new.self.reason;
  after = c.end_file-finished.new.self.finisher;
  ends = c.end_file-finished.ensures.ends;
  told = inl refl;
}

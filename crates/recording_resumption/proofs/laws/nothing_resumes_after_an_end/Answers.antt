use Rattle.recording_resumption.proofs.Steps.{ended_stays}
use Rattle.recording_resumption.proofs.laws.nothing_resumes_after_an_end.Goals as goal

pub returns : goal.returns
returns c = ended_stays

use Rattle.recording_resumption.proofs.Steps.{resumes}
use Rattle.recording_resumption.proofs.laws.what_resumes_is_never_before.Goals as goal

pub returns : goal.returns
returns c = resumes

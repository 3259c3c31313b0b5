use Rattle.recording_names.proofs.Hyphens.{one_session}
use Rattle.recording_names.proofs.laws.names_say_one_session.Goals as goal

pub returns : goal.returns
returns c = one_session

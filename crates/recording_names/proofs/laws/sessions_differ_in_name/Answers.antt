use Rattle.recording_names.proofs.Hyphens.{one_number_in}
use Rattle.recording_names.proofs.laws.sessions_differ_in_name.Goals as goal

pub returns : goal.returns
returns c = λ peer other transport over number next small fits differ is. differ (one_number_in peer other transport over number next small fits is)

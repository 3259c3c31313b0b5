use Rattle.laws_recordings.proofs.GivenAll.{same_records, same_table}
use Rattle.laws_recordings.proofs.laws.recordings_give_all_records.Goals as goal

pub returns : goal.returns
returns c = record { records = same_records; table = λ came files r plan table. same_table plan table came files r }

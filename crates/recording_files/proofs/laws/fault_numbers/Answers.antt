use Rattle.recording_files.proofs.FaultNumbers.{same_number, only_not_written}
use Rattle.recording_files.proofs.laws.fault_numbers.Goals as goal

pub returns : goal.returns
returns c = record {
  number = λ f. (same_number f.fault f.session f.is_shared f.same).0;
  name = λ f. (same_number f.fault f.session f.is_shared f.same).1;
  only = only_not_written;
}

use Rattle.laws_merge.proofs.OneRow.{no_row}
use Rattle.laws_merge.proofs.laws.faults_are_no_rows.Goals as goal

pub returns : goal.returns
returns c plan r fault row = no_row plan r fault row

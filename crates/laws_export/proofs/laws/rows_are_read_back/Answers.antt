use Rattle.laws_export.proofs.ReadAll.{read_all_back}
use Rattle.laws_export.proofs.laws.rows_are_read_back.Goals as goal

pub returns : goal.returns
returns c = read_all_back

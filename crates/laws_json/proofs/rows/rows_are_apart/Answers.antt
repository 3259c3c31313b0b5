use Rattle.laws_json.proofs.LinesRead.{rows_apart}
use Rattle.laws_json.proofs.rows.rows_are_apart.Goals as goal

pub returns : goal.returns
returns c files plan = rows_apart files.known files.plain plan

use Rattle.laws_json.proofs.LinesRead.{records_apart}
use Rattle.laws_json.proofs.lines.lines_are_apart.Goals as goal

pub returns : goal.returns
returns c files = records_apart files.known files.plain

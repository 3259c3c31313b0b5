use Rattle.std.proofs.Common.{arith}
use Rattle.exporter_names.proofs.Cuts.{last_parts}
use Rattle.tables_folder.proofs.plan_names.at_hyphen.Goals as goal

pub returns : goal.returns
returns c = last_parts 45 (omega arith) c.args.day.now c.rsplit_once.result c.rsplit_once.ensures.cases

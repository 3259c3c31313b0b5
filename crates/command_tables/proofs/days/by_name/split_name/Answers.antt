use Rattle.std.proofs.Common.{arith}
use Rattle.exporter_names.proofs.Cuts.{last_parts}
use Rattle.command_tables.proofs.days.by_name.split_name.Goals as goal

pub returns : goal.returns
returns c = last_parts 47 (omega arith) c.args.name.now c.rsplit_once.result c.rsplit_once.ensures.cases

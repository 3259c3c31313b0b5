use Rattle.std.proofs.Common.{arith}
use Rattle.exporter_names.proofs.Cuts.{last_parts}
use Rattle.exporter_names.proofs.told_exporter.cut_at_last.Goals as goal

pub returns : goal.returns
returns c = last_parts 61 (omega arith) c.args.word.now c.rsplit_once.result c.rsplit_once.ensures.cases

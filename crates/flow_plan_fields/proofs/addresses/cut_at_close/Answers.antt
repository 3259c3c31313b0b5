use Rattle.std.proofs.Common.{arith}
use Rattle.std.proofs.lemmas.Str.Pattern.{split_once_first}
use Rattle.flow_plan_fields.proofs.Cuts.{cut_is}
use Rattle.flow_plan_fields.proofs.addresses.cut_at_close.Goals as goal

pub returns : goal.returns
returns c = cut_is 41 c.args.text.now c.split_once.result (split_once_first 41 c.args.text.now c.split_once.result c.split_once.ensures.cases (omega arith))

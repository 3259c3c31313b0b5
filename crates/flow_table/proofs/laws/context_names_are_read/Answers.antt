use Rattle.flow_table.proofs.ContextNames.{named_back, named_first}
use Rattle.flow_table.proofs.laws.context_names_are_read.Goals as goal

pub returns : goal.returns
returns c = λ e name. (named_back e name, named_first e name)

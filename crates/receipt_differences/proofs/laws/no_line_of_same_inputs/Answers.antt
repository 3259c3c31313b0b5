use Rattle.receipt_differences.proofs.Silent.{same_inputs}
use Rattle.receipt_differences.proofs.laws.no_line_of_same_inputs.Goals as goal

pub returns : goal.returns
returns c = same_inputs

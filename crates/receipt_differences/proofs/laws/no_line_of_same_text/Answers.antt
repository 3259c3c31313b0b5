use Rattle.receipt_differences.proofs.Silent.{same_text}
use Rattle.receipt_differences.proofs.laws.no_line_of_same_text.Goals as goal

pub returns : goal.returns
returns c = same_text

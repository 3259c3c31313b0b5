use Rattle.receipt_differences.proofs.Silent.{its_table}
use Rattle.receipt_differences.proofs.laws.no_line_of_its_table.Goals as goal

pub returns : goal.returns
returns c = its_table

use Rattle.laws_export.proofs.RowFlows.{counts_again}
use Rattle.laws_export.proofs.WholeKeys.{whole_keys}
use Rattle.laws_export.proofs.laws.rows_are_counted_again.Goals as goal

pub returns-clause-counted : goal.returns-clause-counted
returns-clause-counted c = counts_again

pub returns-clause-whole : goal.returns-clause-whole
returns-clause-whole c = whole_keys

use Rattle.std.proofs.Common.{refl, rules}
use Rattle.period_collect.proofs.table_maker.table_without.Goals as goal

pub returns-clause-table : goal.returns-clause-table
returns-clause-table c = record { made = c.in_ok-table.table; ends = c.in_ok-table.ensures.table; same_text = refl; same_receipt = refl; fault_is = search rules }

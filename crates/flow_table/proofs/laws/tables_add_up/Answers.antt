use Rattle.flow_table.proofs.TablesAdded.{tables_are_added, too_large_both}
use Rattle.flow_table.proofs.laws.tables_add_up.Goals as goal

pub returns-clause-table : goal.returns-clause-table
returns-clause-table c = λ plan lists all rows. tables_are_added plan lists rows.tables all rows.each rows.sums

pub returns-clause-too_large : goal.returns-clause-too_large
returns-clause-too_large c = λ plan tables lists each. too_large_both plan lists tables each

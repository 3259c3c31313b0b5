use Rattle.tables_folder.proofs.TableNames.{no_table_if, other_ending, table_if}
use Rattle.tables_folder.proofs.found_periods.table_period.Goals as goal

pub returns-in-Some-clause-none : goal.returns-in-Some-clause-none
returns-in-Some-clause-none c = no_table_if c.args.day.now c.args.name.now c.in-Some.time.now c.in-Some.ensures.time c.read_period_at.result c.read_period_at.ensures.none

pub returns-in-Some-clause-table : goal.returns-in-Some-clause-table
returns-in-Some-clause-table c = table_if c.args.day.now c.args.name.now c.in-Some.time.now c.in-Some.ensures.time c.read_period_at.result c.read_period_at.ensures.read

pub returns-in-None-clause-none : goal.returns-in-None-clause-none
returns-in-None-clause-none c = other_ending c.args.day.now c.args.name.now c.in-None.ensures.none

use Rattle.flow_table.specs.SameTables.{value_of}
use Rattle.std.proofs.Common.{map}
use Rattle.laws_export.proofs.RowFlows.{counts_again}
use Rattle.laws_export.proofs.ReadAll.{read_all_back}
use Rattle.laws_export.proofs.Tables.{can_be_exported, can_be_counted}
use Rattle.laws_export.proofs.laws.tables_are_read_back.Goals as goal

pub returns-clause-read : goal.returns-clause-read
returns-clause-read c =
    read_all_back c.args.plan.now c.args.time (map value_of c.args.table.now.rows.items)
    (can_be_exported c.args.plan.now c.args.table.now c.args.time c.length.ensures.sound c.requires.fits c.ranges.time.fits c.requires.few)

pub returns-clause-counted : goal.returns-clause-counted
returns-clause-counted c = λ in_time.
    counts_again c.args.plan.now c.args.time (map value_of c.args.table.now.rows.items)
    (can_be_counted c.args.plan.now c.args.table.now c.length.ensures.sound c.requires.fits in_time)

use Rattle.std.proofs.Common.{◌<◌, length, ap, arith}
use Rattle.std.proofs.lemmas.Result.{on_ok_weaker}
use Rattle.flow_table.specs.FlatTables.{run_in}
use Rattle.flow_table.specs.declared.table.Table.{Table}
use Rattle.flow_table.proofs.FlatTables.{row_fits, row_shown, length_shown}
use Rattle.flow_table.proofs.flat_table.FlatTable.row_at.Goals as goal

pub write-requires-clause-within : goal.write-requires-clause-within
write-requires-clause-within c =
    omega (arith, c.requires, length_shown c.self.inside c.self.invariant, ap (λ (t : Table). length t.rows.items) c.self.view_is)

pub returns-clause-row : goal.returns-clause-row
returns-clause-row c =
    let within : c.args.index < length (run_in c.self.inside.run) =
    omega (arith, c.requires, length_shown c.self.inside c.self.invariant, ap (λ (t : Table). length t.rows.items) c.self.view_is) in
    rw (← c.self.view_is) (on_ok_weaker c.write.result (row_shown c.self.inside c.self.invariant c.args.index c.write.new.row within) (rw c.deref.ensures.value at c.write.ensures))

pub returns-clause-fits : goal.returns-clause-fits
returns-clause-fits c = λ plan fits.
    on_ok_weaker c.write.result (λ is. row_fits plan c.args.self.now c.args.index c.write.new.row c.requires is fits) (returns-clause-row c)

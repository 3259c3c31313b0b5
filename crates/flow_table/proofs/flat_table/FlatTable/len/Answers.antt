use Rattle.std.proofs.Common.{◌∙◌, length, ap, sym}
use Rattle.flow_table.specs.declared.table.Table.{Table}
use Rattle.flow_table.proofs.FlatTables.{length_shown}
use Rattle.flow_table.proofs.flat_table.FlatTable.len.Goals as goal

pub returns : goal.returns
returns c = c.len.ensures.value ∙ sym (length_shown c.self.inside c.self.invariant) ∙ ap (λ (t : Table). length t.rows.items) c.self.view_is

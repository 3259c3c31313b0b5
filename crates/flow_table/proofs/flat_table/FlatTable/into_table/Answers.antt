use Rattle.std.proofs.Common.{ap, sym}
use Rattle.flow_table.specs.declared.table.Table.{Table}
use Rattle.flow_table.proofs.flat_table.FlatTable.into_table.Goals as goal

pub returns : goal.returns
returns c =
    record {
      rows = sym c.in_ok-all_rows.ensures;
      tally = sym (ap (λ (t : Table). t.tally) c.self.view_is);
      missing = sym (ap (λ (t : Table). t.missing) c.self.view_is);
    }

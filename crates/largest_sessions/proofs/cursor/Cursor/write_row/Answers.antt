use Rattle.std.proofs.Common.{arith, length, ap}
use Rattle.std.proofs.lemmas.List.{length-drop, length-map}
use Rattle.flow_table.specs.AddedUp.{rows_in}
use Rattle.flow_table.specs.SameTables.{value_of}
use Rattle.largest_sessions.proofs.FirstRows.{starts_there}
use Rattle.largest_sessions.proofs.cursor.Cursor.write_row.Goals as goal

pub returns : goal.returns
returns c =
    starts_there (rows_in c.self.inside.table) c.args.self.now c.self.inside.next (value_of c.row_at.new.row)
    (omega (arith, length-map c.self.inside.table.rows.items value_of, length-drop c.self.inside.next (rows_in c.self.inside.table), ap length c.self.view_is, c.requires)) c.in_ok-row_at.ensures.row c.self.view_is

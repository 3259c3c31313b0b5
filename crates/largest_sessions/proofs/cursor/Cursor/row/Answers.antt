use Rattle.std.proofs.Common.{arith}
use Rattle.std.proofs.lemmas.List.{length-map}
use Rattle.flow_table.specs.AddedUp.{rows_in}
use Rattle.flow_table.specs.SameTables.{value_of}
use Rattle.largest_sessions.proofs.FirstRows.{starts_there}
use Rattle.largest_sessions.proofs.cursor.Cursor.row.Goals as goal

pub returns-then-self-len-clause-some : goal.returns-then-self-len-clause-some
returns-then-self-len-clause-some c =
    starts_there (rows_in c.self.inside.table) c.args.self.now c.self.inside.next (value_of c.self.inside.row) (omega (arith, length-map c.self.inside.table.rows.items value_of)) (λ d. c.self.invariant d (omega arith)) c.self.view_is

use Rattle.std.proofs.Common.{refl}
use Rattle.table_parts.proofs.TablesSaid.{has_input}
use Rattle.table_parts.proofs.tables.table_of_input.Goals as goal

pub returns-then-left-table : goal.returns-then-left-table
returns-then-left-table c = has_input c.args.tables.now c.loop-index.index c.loop-index.left c.args.place _ _ c.loop-index-test.true refl c.loop-index.invariant c.if-left-table.true

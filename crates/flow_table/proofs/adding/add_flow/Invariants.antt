use Rattle.std.proofs.Common.{◌≡◌, ℕ, List, Some}
use Rattle.ipfix_elements.specs.declared.cell.Cell.{Cell}
use Rattle.flow_table.specs.Flows.{flow_total, run_part}
use Rattle.flow_table.specs.Totals.{IsLargeAt, joined}
use Rattle.flow_table.specs.Rows.{AreRowsOf, kept_at}
use Rattle.flow_table.specs.Words.{key_words}
use Rattle.flow_table.proofs.adding.add_flow.Given as goal

-- the flow's shares at the intervals so far
abbrev pub invariant-loop-interval : goal.invariant-loop-interval
invariant-loop-interval l = record {
  of_plan : (key : List Cell) → key_words l.plan.kinds key ≡ Some l.fn.room.words.items → AreRowsOf l.plan l.fn.rows → AreRowsOf l.plan l.rows;
  totals : (key : List Cell) → key_words l.plan.kinds key ≡ Some l.fn.room.words.items → AreRowsOf l.plan l.fn.rows
      → (k : ℕ) (q : List Cell) → kept_at l.plan l.rows k q ≡ joined (kept_at l.plan l.fn.rows k q) (run_part l.flow.first l.interval key (flow_total l.plan l.flow.span.start l.flow.span.end l.fn.room.counters.items) k q);
  fits : (k : ℕ) (q : List Cell) → (IsLargeAt (kept_at l.plan l.fn.rows k q) → ⊥) → IsLargeAt (kept_at l.plan l.rows k q) → ⊥;
  words : l.room.words.items ≡ l.fn.room.words.items;
  counters : l.room.counters.items ≡ l.fn.room.counters.items;
}

use Rattle.std.proofs.Common.{ℕ, List, string_bytes}
use Rattle.json.specs.Json.{string}
use Rattle.json.specs.Value.{value_view}
use Rattle.table_receipts.proofs.ListReads.{Reads}
use Rattle.table_receipts.proofs.part_reading.texts_of.Given as goal

abbrev pub invariant-loop-item : goal.invariant-loop-item
invariant-loop-item l = Reads value_view string_bytes string (λ (text : List ℕ). Unit {0}) l.items l.item-index l.texts.items

use Rattle.std.proofs.Common.{List, String, string_bytes}
use Rattle.std.specs.Prelude.{map}
use Rattle.std.specs.declared.alloc.Global.{Global}
use Rattle.json.specs.Json.{string}
use Rattle.table_receipts.proofs.Listing.{Writing}
use Rattle.table_receipts.proofs.parts.write_names.Given as goal

abbrev pub invariant-loop-name : goal.invariant-loop-name
invariant-loop-name l = Writing (λ (xs : List (String Global)). map string (map string_bytes xs)) l.names l.name-index l.initial.writer l.writer

use Rattle.std.proofs.Common.{◌≡◌, length, map}
use Rattle.std.specs.Prelude.{find}
use Rattle.std.specs.Str.{bytes_eq}
use Rattle.ipfix_elements.specs.Entries.{shown}
use Rattle.ipfix_elements.proofs.element.find_by_name.Given as goal

abbrev pub invariant-loop-table : goal.invariant-loop-table
invariant-loop-table l = find (λ r. bytes_eq r.name l.name) (map shown l.table) ≡ find (λ r. bytes_eq r.name l.name) (map shown l.initial.table)

abbrev pub decreases-loop-table : goal.decreases-loop-table
decreases-loop-table l = length l.table

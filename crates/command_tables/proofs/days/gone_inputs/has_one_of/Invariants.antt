use Rattle.std.proofs.Common.{◌≡◌, length, map, string_bytes}
use Rattle.table_receipts.specs.Values.{input_value}
use Rattle.command_tables.specs.GoneInputs as gone
use Rattle.command_tables.proofs.days.gone_inputs.has_one_of.Given as goal

-- of what is left the same is said
abbrev pub invariant-loop-name : goal.invariant-loop-name
invariant-loop-name l =
    gone.has_one_of (map string_bytes l.left) (input_value l.input) ≡ gone.has_one_of (map string_bytes l.initial.left) (input_value l.input)

abbrev pub decreases-loop-name : goal.decreases-loop-name
decreases-loop-name l = length l.left

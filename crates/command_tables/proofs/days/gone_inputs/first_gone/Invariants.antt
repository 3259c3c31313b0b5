use Rattle.std.proofs.Common.{◌≡◌, ◌+◌, length, map, string_bytes}
use Rattle.table_receipts.specs.Values.{input_value}
use Rattle.command_tables.specs.GoneInputs as gone
use Rattle.command_tables.proofs.days.gone_inputs.first_gone.Given as goal

-- of what is left the same is the first
abbrev pub invariant-loop-input : goal.invariant-loop-input
invariant-loop-input l =
    gone.first_gone (gone.not_left_out (map string_bytes l.names) (map input_value l.left)) (map input_value l.rest)
    ≡ gone.first_gone (gone.not_left_out (map string_bytes l.names) (map input_value l.initial.left)) (map input_value l.initial.rest)

abbrev pub decreases-loop-input : goal.decreases-loop-input
decreases-loop-input l = length l.left + length l.rest

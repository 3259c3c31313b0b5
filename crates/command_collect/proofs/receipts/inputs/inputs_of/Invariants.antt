use Rattle.std.proofs.Common.{◌≡◌, ◌++◌, length, map}
use Rattle.table_receipts.specs.Values.{input_value}
use Rattle.command_collect.specs.Inputs.{inputs_in}
use Rattle.command_collect.proofs.receipts.inputs.inputs_of.Given as goal

-- those that are left come after those that are there
abbrev pub invariant-loop-full : goal.invariant-loop-full
invariant-loop-full l = map input_value l.all.items ++ inputs_in l.wanted l.told l.left l.fulls l.hashes ≡ inputs_in l.wanted l.initial.told l.initial.left l.initial.fulls l.initial.hashes

abbrev pub decreases-loop-full : goal.decreases-loop-full
decreases-loop-full l = length l.fulls

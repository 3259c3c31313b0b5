use Rattle.std.proofs.Common.{◌≡◌, length}
use Rattle.command_elements.specs.Fitting.{has_part}
use Rattle.command_elements.proofs.fitting.has_part.Given as goal

abbrev pub invariant-loop-text : goal.invariant-loop-text
invariant-loop-text l = has_part l.text l.word ≡ has_part l.initial.text l.word

abbrev pub decreases-loop-text : goal.decreases-loop-text
decreases-loop-text l = length l.text

use Rattle.std.proofs.Common.{take}
use Rattle.flow_table.proofs.WordSteps.{FirstWords}
use Rattle.flow_table.proofs.words.write_words.Given as goal

abbrev pub invariant-loop-place : goal.invariant-loop-place
invariant-loop-place l = FirstWords l.kinds (take l.place l.cells) l.place l.half l.words.items

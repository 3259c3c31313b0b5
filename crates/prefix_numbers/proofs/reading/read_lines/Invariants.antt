use Rattle.std.proofs.Common.{take, map}
use Rattle.prefix_numbers.specs.Keys.{HasKeys}
use Rattle.prefix_numbers.specs.Texts.{AreRows}
use Rattle.prefix_numbers.proofs.reading.read_lines.Given as goal

-- the rows of the lines up to here are read
abbrev pub invariant-loop-place : goal.invariant-loop-place
invariant-loop-place l = record {
  keys : HasKeys l.read;
  rows : AreRows (take l.place (map (λ line. line.now) l.lines)) l.read.rows.items;
}
